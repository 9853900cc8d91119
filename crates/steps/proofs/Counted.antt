-- The step at the path's last term is what its line gives, and how many bindings there are then.
use Rattle.std.proofs.Common.{◌≡◌, ℕ, ◌+◌, Bool, true, false, cond, List, [], ◌∷◌, ◌++◌, length, Some, None, Option, sym, refl, ap, ◌∙◌, subst, arith, length-append, MatchOption}
use Rattle.quantities.specs.declared.Signature.{Signature}
use Rattle.quantities.specs.Meaning.{Meaning}
use Rattle.calculus.specs.Lists.{at, put}
use Rattle.calculus.specs.Terms.{Term, unit, application, yield, start, resume, snapshot, fix, atom, operation, resumption, suspension, Value}
use Rattle.calculus.specs.Configurations.{Binding, empty, ready, Bindings, Configuration, ◌∣◌}
use Rattle.calculus.specs.Frames.{Frame, plug, Proper}
use Rattle.calculus.specs.Views.{View, is_abstraction, is_coroutine, is_instance, is_atom, is_suspension_term, is_other, view}
use Rattle.calculus.specs.Redexes.{applied, fixed, started, resumed, resumes, copied, copies, on_empty, operated, operates_second, operates}
use Rattle.calculus.specs.Next.{within, next}
use Rattle.calculus.proofs.Configured.{put_length}
use Rattle.lines.specs.Lines.{Lined, Turned}
use Rattle.lines.proofs.Around.{next_plug}

-- the step where the path ends
module _ (Q : Meaning) (μ : Bindings) where
  pub next_applied : (f a : Term) → Value f → Value a → next Q (application f a) μ ≡ applied (view f) a μ
  unfolding next
  next_applied f a v w = rw (v, w)

  pub next_yielded : (a : Term) → Value a → next Q (yield a) μ ≡ Some (suspension unit a ∣ μ)
  unfolding next
  next_yielded a v = rw v

  pub next_started : (i : ℕ) (f a : Term) → Value f → Value a → next Q (start i f a) μ ≡ started i (view f) a μ
  unfolding next
  next_started i f a v w = rw (v, w)

  pub next_resumed : (a b d e : Term) → Value a → Value b → Value d → Value e → next Q (resume a b d e) μ ≡ resumes (view a) b d e μ
  unfolding next
  next_resumed a b d e x y z w = rw (x, y, z, w)

  pub next_copied : (a : Term) → Value a → next Q (snapshot a) μ ≡ copies (view a) μ
  unfolding next
  next_copied a v = rw v

  pub next_fixed : (a : Term) → Value a → next Q (fix a) μ ≡ fixed (view a) μ
  unfolding next
  next_fixed a v = rw v

  pub next_operated : (o : ℕ) (a b : Term) → Value a → Value b → next Q (operation o a b) μ ≡ operates Q o (view a) (view b) μ
  unfolding next
  next_operated o a b v w = rw (v, w)

  pub next_ended : (l : ℕ) (a b d e : Term) → Value a → next Q (resumption l a b d e) μ ≡ on_empty (at μ l) (λ i. application b a ∣ μ)
  unfolding next
  next_ended l a b d e v = rw v

  pub next_captured : (l : ℕ) (t v b d e : Term) →
      next Q (resumption l (suspension t v) b d e) μ ≡ on_empty (at μ l) (λ i. application d v ∣ put μ l (ready i t))
  unfolding next
  next_captured l t v b d e = refl

  pub next_paused : (F : Frame) (t v : Term) → Proper F → next Q (plug F (suspension t v)) μ ≡ Some (suspension (plug F t) v ∣ μ)
  next_paused F t v p = next_plug Q F (suspension t v) μ p refl

none_given : {A : Type 0} {d : Configuration} → None ≡ Some d → A
none_given e = let z : ◌≡◌ {A = ℕ} 0 1 = cc in absurd (omega arith)

same_given : {c d : Configuration} → Some c ≡ Some d → c ≡ d
same_given e = cc

pub counted : (c d : Configuration) (n : ℕ) → n ≡ length c.bindings → Some c ≡ Some d → n ≡ length d.bindings
counted c d n h e = h ∙ ap (λ x. length x.bindings) (same_given e)

-- how many bindings there are after a line
module _ (μ : Bindings) (d : Configuration) (n : ℕ) (h : n ≡ length μ) where
  pub count_applied : (v : Term) (w : View) → applied w v μ ≡ Some d → n ≡ length d.bindings
  count_applied v (is_abstraction x r b) e = counted _ d n h e
  count_applied v (is_coroutine x r b) e = counted _ d n h e
  count_applied v (is_instance l r) e = none_given e
  count_applied v (is_atom k p) e = none_given e
  count_applied v (is_suspension_term t u) e = none_given e
  count_applied v is_other e = none_given e

  pub count_fixed : (w : View) → fixed w μ ≡ Some d → n ≡ length d.bindings
  count_fixed (is_abstraction x r b) e = counted _ d n h e
  count_fixed (is_coroutine x r b) e = none_given e
  count_fixed (is_instance l r) e = none_given e
  count_fixed (is_atom k p) e = none_given e
  count_fixed (is_suspension_term t u) e = none_given e
  count_fixed is_other e = none_given e

  count_resumed : (l : ℕ) (β : Option Binding) (b f g : Term) → resumed l β b f g μ ≡ Some d → n ≡ length d.bindings
  count_resumed l None b f g e = none_given e
  count_resumed l (Some (empty i)) b f g e = counted _ d n h e
  count_resumed l (Some (ready i t)) b f g e = counted _ d n (h ∙ sym (put_length μ l (empty i))) e

  pub count_resumes : (w : View) (b f g : Term) → resumes w b f g μ ≡ Some d → n ≡ length d.bindings
  count_resumes (is_abstraction x r t) b f g e = none_given e
  count_resumes (is_coroutine x r t) b f g e = none_given e
  count_resumes (is_instance l r) b f g e = count_resumed l (at μ l) b f g e
  count_resumes (is_atom k p) b f g e = none_given e
  count_resumes (is_suspension_term t u) b f g e = none_given e
  count_resumes is_other b f g e = none_given e

  pub count_on_empty : (β : Option Binding) (f : ℕ → Configuration) → ((i : ℕ) → length (f i).bindings ≡ length μ) →
      on_empty β f ≡ Some d → n ≡ length d.bindings
  count_on_empty None f g e = none_given e
  count_on_empty (Some (empty i)) f g e = counted _ d n (h ∙ sym (g i)) e
  count_on_empty (Some (ready i t)) f g e = none_given e

  one_longer : (β : Binding) → n + 1 ≡ length (μ ++ β ∷ [])
  one_longer β = omega (arith, length-append μ (β ∷ []))

  pub count_started : (i : ℕ) (w : View) (v : Term) → started i w v μ ≡ Some d → n + 1 ≡ length d.bindings
  count_started i (is_abstraction x r b) v e = none_given e
  count_started i (is_coroutine x r b) v e = counted _ d (n + 1) (one_longer _) e
  count_started i (is_instance l r) v e = none_given e
  count_started i (is_atom k p) v e = none_given e
  count_started i (is_suspension_term t u) v e = none_given e
  count_started i is_other v e = none_given e

  count_copied : (β : Option Binding) → copied β μ ≡ Some d → n + 1 ≡ length d.bindings
  count_copied None e = none_given e
  count_copied (Some β) e = counted _ d (n + 1) (one_longer β) e

  pub count_copies : (w : View) → copies w μ ≡ Some d → n + 1 ≡ length d.bindings
  count_copies (is_abstraction x r b) e = none_given e
  count_copies (is_coroutine x r b) e = none_given e
  count_copies (is_instance l r) e = count_copied (at μ l) e
  count_copies (is_atom k p) e = none_given e
  count_copies (is_suspension_term t u) e = none_given e
  count_copies is_other e = none_given e

  module _ (Q : Meaning) (o : ℕ) where
    by_cond : (c : Configuration) (b : Bool) → n ≡ length c.bindings → cond b (Some c) None ≡ Some d → n ≡ length d.bindings
    by_cond c true g e = counted c d n g e
    by_cond c false g e = none_given e

    count_operated : (p j q k : ℕ) (s : Option Signature) → operated Q o p j q k s μ ≡ Some d → n ≡ length d.bindings
    count_operated p j q k None e = none_given e
    count_operated p j q k (Some s) e = by_cond (atom s.result (Q.result o p q) ∣ μ) _ h e

    count_second : (p j : ℕ) (w : View) → operates_second Q o p j w μ ≡ Some d → n ≡ length d.bindings
    count_second p j (is_abstraction x r b) e = none_given e
    count_second p j (is_coroutine x r b) e = none_given e
    count_second p j (is_instance l r) e = none_given e
    count_second p j (is_atom k q) e = count_operated p j q k (Q.signature o) e
    count_second p j (is_suspension_term t u) e = none_given e
    count_second p j is_other e = none_given e

    pub count_operates : (w v : View) → operates Q o w v μ ≡ Some d → n ≡ length d.bindings
    count_operates (is_abstraction x r b) v e = none_given e
    count_operates (is_coroutine x r b) v e = none_given e
    count_operates (is_instance l r) v e = none_given e
    count_operates (is_atom k p) v e = count_second p k v e
    count_operates (is_suspension_term t u) v e = none_given e
    count_operates is_other v e = none_given e

-- the step of c is that of the term u in K, and it is written
abbrev pub TurnedAt : Meaning → Configuration → (Term → Term) → Option (ℕ × ℕ) → List ℕ → List ℕ → Term → Type 0
TurnedAt Q c K o s s' u =
    next Q c.term c.bindings ≡ within K (next Q u c.bindings) → Turned o s s' (next Q c.term c.bindings)

-- what a line writes is what the step writes
pub turned : (r : Option ℕ) (o : Option (ℕ × ℕ)) (n : ℕ) → MatchOption r (o ≡ None) (λ e. o ≡ Some (e, n)) → (K : Term → Term)
    (ℓ ℓ' : Option Configuration) → ℓ ≡ within K ℓ' → (s s' : List ℕ) → Lined r s s' K ℓ' →
    ((d : Configuration) → ℓ' ≡ Some d → n ≡ length d.bindings) → Turned o s s' ℓ
turned None o n q K ℓ ℓ' e s s' l k = subst (λ x. Turned x s s' ℓ) (sym q) (e ∙ ap (within K) l)
turned (Some x) o n q K ℓ ℓ' e s s' l k =
    subst (λ x. Turned x s s' ℓ) (sym q) (K l.0.term ∣ l.0.bindings, e ∙ ap (within K) l.1, k l.0 l.1, l.2)
