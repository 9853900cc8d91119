-- Each line of a step that is computed is a line of the step relation.
use Rattle.std.proofs.Common.{◌≡◌, ℕ, Bool, true, false, cond, ◌&&◌, eqb, Some, None, Option, refl, ap, ap₂, arith}
use Rattle.quantities.specs.declared.Signature.{Signature}
use Rattle.quantities.specs.Meaning.{Meaning}
use Rattle.calculus.specs.Lists.{at, put}
use Rattle.calculus.specs.Terms.{Term, unit, variable, abstraction, coroutine, application, yield, start, resume, snapshot, fix, atom, operation, instance, resumption, suspension, is_value, Value}
use Rattle.calculus.specs.Configurations.{Binding, empty, ready, Bindings, Configuration, ◌∣◌}
use Rattle.calculus.specs.Frames.{Frame, plug, Proper}
use Rattle.calculus.specs.Lines.{e_pause, e_apply, e_apply_coroutine, e_fix, e_start, e_resume_ready, e_resume_empty, e_capture, e_terminate, e_snapshot, e_operate}
use Rattle.calculus.specs.Steps.{Step, line, e_context, e_executing}
use Rattle.calculus.specs.Views.{View, is_abstraction, is_coroutine, is_instance, is_atom, is_suspension_term, is_other, view}
use Rattle.calculus.specs.Redexes.{applied, fixed, started, resumed, resumes, copied, copies, on_empty, captured, operated, operates_second, operates}
use Rattle.calculus.specs.Next.{within, moves, first, next}
use Rattle.calculus.proofs.Tests.{same}

-- what a view shows of a term
abbrev pub Shows : Term → View → Type 0
Shows t (is_abstraction x r b) = t ≡ abstraction x r b
Shows t (is_coroutine x r b) = t ≡ coroutine x r b
Shows t (is_instance l r) = t ≡ instance l r
Shows t (is_atom k p) = t ≡ atom k p
Shows t (is_suspension_term u v) = t ≡ suspension u v
Shows t is_other = Unit {0}

pub shows : (t : Term) → Shows t (view t)
shows unit = tt
shows (variable n) = tt
shows (abstraction x r b) = refl
shows (coroutine x r b) = refl
shows (application f a) = tt
shows (yield t) = tt
shows (start i f a) = tt
shows (resume a b c d) = tt
shows (snapshot t) = tt
shows (fix t) = tt
shows (atom k p) = refl
shows (operation o a b) = tt
shows (instance l r) = refl
shows (resumption l a b c d) = tt
shows (suspension t v) = refl

-- what a computed step found
abbrev pub Goes : Meaning → Term → Bindings → Configuration → Type 0
Goes Q t μ c = Step Q t μ c.term c.bindings

pub conv : {Q : Meaning} {t u t' : Term} {μ μ' : Bindings} {c : Configuration} → t ≡ u → Some (t' ∣ μ') ≡ Some c → Step Q u μ t' μ' →
    Goes Q t μ c
conv {t' = t'} {μ' = μ'} {c = c} e q s = let p : (t' ∣ μ') ≡ c = cc in rw (e, ← p) s

pub none_goes : {A : Type 0} {c : Configuration} → None ≡ Some c → A
none_goes e = let z : ◌≡◌ {A = ℕ} 0 1 = cc in absurd (omega arith)

pub within_inv : (f : Term → Term) (n : Option Configuration) {c : Configuration} → within f n ≡ Some c →
    (d : Configuration) × (n ≡ Some d) × (Some (f d.term ∣ d.bindings) ≡ Some c)
within_inv f None e = none_goes e
within_inv f (Some d) e = (d, refl, e)

module _ (Q : Meaning) where
  stepped : (F : Frame) (t : Term) (μ : Bindings) (c : Configuration) → Proper F →
      ((d : Configuration) → next Q t μ ≡ Some d → Goes Q t μ d) →
      within (plug F) (next Q t μ) ≡ Some c → Goes Q (plug F t) μ c
  stepped F t μ c p again e = let i = within_inv (plug F) (next Q t μ) e in conv refl i.2 (e_context F p (again i.0 i.1))

  moved : (F : Frame) (t : Term) (μ : Bindings) (c : Configuration) → Proper F →
      ((d : Configuration) → next Q t μ ≡ Some d → Goes Q t μ d) →
      (w : View) → Shows t w → moves F w μ (next Q t μ) ≡ Some c → Goes Q (plug F t) μ c
  moved F t μ c p again (is_abstraction x r b) h e = stepped F t μ c p again e
  moved F t μ c p again (is_coroutine x r b) h e = stepped F t μ c p again e
  moved F t μ c p again (is_instance l r) h e = stepped F t μ c p again e
  moved F t μ c p again (is_atom k q) h e = stepped F t μ c p again e
  moved F t μ c p again (is_suspension_term u v) h e = conv (ap (plug F) h) e (line (e_pause F u v p))
  moved F t μ c p again is_other h e = stepped F t μ c p again e

  pub by_first : (F : Frame) (t : Term) (μ : Bindings) (rest : Option Configuration) (c : Configuration) → Proper F →
      ((d : Configuration) → next Q t μ ≡ Some d → Goes Q t μ d) → (Value t → rest ≡ Some c → Goes Q (plug F t) μ c) →
      first F t μ (next Q t μ) rest ≡ Some c → Goes Q (plug F t) μ c
  by_first F t μ rest c p again last = go (is_value t) refl
    where
      go : (b : Bool) → is_value t ≡ b → cond b rest (moves F (view t) μ (next Q t μ)) ≡ Some c → Goes Q (plug F t) μ c
      go true v e = last v e
      go false v e = moved F t μ c p again (view t) (shows t) e

  pub line_apply : (f a : Term) (μ : Bindings) (c : Configuration) → Value a → (w : View) → Shows f w → applied w a μ ≡ Some c →
      Goes Q (application f a) μ c
  line_apply f a μ c v (is_abstraction x r b) h e = conv (ap (λ g. application g a) h) e (line (e_apply v))
  line_apply f a μ c v (is_coroutine x r b) h e = conv (ap (λ g. application g a) h) e (line (e_apply_coroutine v))
  line_apply f a μ c v (is_instance l r) h e = none_goes e
  line_apply f a μ c v (is_atom k p) h e = none_goes e
  line_apply f a μ c v (is_suspension_term t w) h e = none_goes e
  line_apply f a μ c v is_other h e = none_goes e

  pub line_fix : (f : Term) (μ : Bindings) (c : Configuration) (w : View) → Shows f w → fixed w μ ≡ Some c → Goes Q (fix f) μ c
  line_fix f μ c (is_abstraction x r b) h e = conv (ap (λ g. fix g) h) e (line e_fix)
  line_fix f μ c (is_coroutine x r b) h e = none_goes e
  line_fix f μ c (is_instance l r) h e = none_goes e
  line_fix f μ c (is_atom k p) h e = none_goes e
  line_fix f μ c (is_suspension_term t w) h e = none_goes e
  line_fix f μ c is_other h e = none_goes e

  pub line_start : (i : ℕ) (f a : Term) (μ : Bindings) (c : Configuration) → Value a → (w : View) → Shows f w → started i w a μ ≡ Some c →
      Goes Q (start i f a) μ c
  line_start i f a μ c v (is_abstraction x r b) h e = none_goes e
  line_start i f a μ c v (is_coroutine x r b) h e = conv (ap (λ g. start i g a) h) e (line (e_start v))
  line_start i f a μ c v (is_instance l r) h e = none_goes e
  line_start i f a μ c v (is_atom k p) h e = none_goes e
  line_start i f a μ c v (is_suspension_term t w) h e = none_goes e
  line_start i f a μ c v is_other h e = none_goes e

  line_resumed : (l r : ℕ) (b c d : Term) (μ : Bindings) (k : Configuration) → Value b → Value c → Value d → (β : Option Binding) →
      at μ l ≡ β → resumed l β b c d μ ≡ Some k → Goes Q (resume (instance l r) b c d) μ k
  line_resumed l r b c d μ k vb vc vd None h e = none_goes e
  line_resumed l r b c d μ k vb vc vd (Some (empty i)) h e = conv refl e (line (e_resume_empty vb vc vd h))
  line_resumed l r b c d μ k vb vc vd (Some (ready i t)) h e = conv refl e (line (e_resume_ready vb vc vd h))

  pub line_resume : (a b c d : Term) (μ : Bindings) (k : Configuration) → Value b → Value c → Value d → (w : View) → Shows a w →
      resumes w b c d μ ≡ Some k → Goes Q (resume a b c d) μ k
  line_resume a b c d μ k vb vc vd (is_abstraction x r t) h e = none_goes e
  line_resume a b c d μ k vb vc vd (is_coroutine x r t) h e = none_goes e
  line_resume a b c d μ k vb vc vd (is_instance l r) h e = rw h (line_resumed l r b c d μ k vb vc vd (at μ l) refl e)
  line_resume a b c d μ k vb vc vd (is_atom j p) h e = none_goes e
  line_resume a b c d μ k vb vc vd (is_suspension_term t w) h e = none_goes e
  line_resume a b c d μ k vb vc vd is_other h e = none_goes e

  line_copied : (l r : ℕ) (μ : Bindings) (c : Configuration) (β : Option Binding) → at μ l ≡ β → copied β μ ≡ Some c →
      Goes Q (snapshot (instance l r)) μ c
  line_copied l r μ c None h e = none_goes e
  line_copied l r μ c (Some β) h e = conv refl e (line (e_snapshot h))

  pub line_snapshot : (t : Term) (μ : Bindings) (c : Configuration) (w : View) → Shows t w → copies w μ ≡ Some c → Goes Q (snapshot t) μ c
  line_snapshot t μ c (is_abstraction x r b) h e = none_goes e
  line_snapshot t μ c (is_coroutine x r b) h e = none_goes e
  line_snapshot t μ c (is_instance l r) h e = rw h (line_copied l r μ c (at μ l) refl e)
  line_snapshot t μ c (is_atom k p) h e = none_goes e
  line_snapshot t μ c (is_suspension_term u w) h e = none_goes e
  line_snapshot t μ c is_other h e = none_goes e

  line_operated : (o p j q k : ℕ) (μ : Bindings) (c : Configuration) (s : Option Signature) → Q.signature o ≡ s →
      operated Q o p j q k s μ ≡ Some c → Goes Q (operation o (atom j p) (atom k q)) μ c
  line_operated o p j q k μ c None h e = none_goes e
  line_operated o p j q k μ c (Some s) h e = go (eqb j s.first) (eqb k s.second) (Q.holds j p) (Q.holds k q) refl refl refl refl e
    where
      go : (b₁ b₂ b₃ b₄ : Bool) → eqb j s.first ≡ b₁ → eqb k s.second ≡ b₂ → Q.holds j p ≡ b₃ → Q.holds k q ≡ b₄ →
          cond (b₁ && b₂ && b₃ && b₄) (Some (atom s.result (Q.result o p q) ∣ μ)) None ≡ Some c →
          Goes Q (operation o (atom j p) (atom k q)) μ c
      go true true true true h₁ h₂ h₃ h₄ e =
          let z₁ : j ≡ s.first = same j s.first h₁ in
          let z₂ : k ≡ s.second = same k s.second h₂ in
          conv (ap₂ (λ x y. operation o (atom x p) (atom y q)) z₁ z₂) e (line (e_operate h (rw z₁ at h₃) (rw z₂ at h₄)))
      go true true true false h₁ h₂ h₃ h₄ e = none_goes e
      go true true false b₄ h₁ h₂ h₃ h₄ e = none_goes e
      go true false b₃ b₄ h₁ h₂ h₃ h₄ e = none_goes e
      go false b₂ b₃ b₄ h₁ h₂ h₃ h₄ e = none_goes e

  line_operate_second : (o p j : ℕ) (b : Term) (μ : Bindings) (c : Configuration) (w : View) → Shows b w →
      operates_second Q o p j w μ ≡ Some c → Goes Q (operation o (atom j p) b) μ c
  line_operate_second o p j b μ c (is_abstraction x r t) h e = none_goes e
  line_operate_second o p j b μ c (is_coroutine x r t) h e = none_goes e
  line_operate_second o p j b μ c (is_instance l r) h e = none_goes e
  line_operate_second o p j b μ c (is_atom k q) h e = rw h (line_operated o p j q k μ c (Q.signature o) refl e)
  line_operate_second o p j b μ c (is_suspension_term u v) h e = none_goes e
  line_operate_second o p j b μ c is_other h e = none_goes e

  pub line_operate : (o : ℕ) (a b : Term) (μ : Bindings) (c : Configuration) (w : View) → Shows a w → operates Q o w (view b) μ ≡ Some c →
      Goes Q (operation o a b) μ c
  line_operate o a b μ c (is_abstraction x r t) h e = none_goes e
  line_operate o a b μ c (is_coroutine x r t) h e = none_goes e
  line_operate o a b μ c (is_instance l r) h e = none_goes e
  line_operate o a b μ c (is_atom k p) h e = rw h (line_operate_second o p k b μ c (view b) (shows b) e)
  line_operate o a b μ c (is_suspension_term u v) h e = none_goes e
  line_operate o a b μ c is_other h e = none_goes e

  pub on_empty_inv : (β : Option Binding) (f : ℕ → Configuration) {c : Configuration} → on_empty β f ≡ Some c →
      (i : ℕ) × (β ≡ Some (empty i)) × (Some (f i) ≡ Some c)
  on_empty_inv None f e = none_goes e
  on_empty_inv (Some (empty i)) f e = (i, refl, e)
  on_empty_inv (Some (ready i t)) f e = none_goes e

  pub line_resumption : (l : ℕ) (a b c d : Term) (μ : Bindings) (k : Configuration) →
      ((m : Configuration) → next Q a μ ≡ Some m → Goes Q a μ m) →
      cond (is_value a) (on_empty (at μ l) (λ i. application b a ∣ μ))
      (captured l (view a) c μ (within (λ t. resumption l t b c d) (next Q a μ))) ≡ Some k →
      Goes Q (resumption l a b c d) μ k
  line_resumption l a b c d μ k again = go (is_value a) refl
    where
      inside : within (λ t. resumption l t b c d) (next Q a μ) ≡ Some k → Goes Q (resumption l a b c d) μ k
      inside e = let i = within_inv (λ t. resumption l t b c d) (next Q a μ) e in conv refl i.2 (e_executing (again i.0 i.1))

      out : (w : View) → Shows a w → captured l w c μ (within (λ t. resumption l t b c d) (next Q a μ)) ≡ Some k →
          Goes Q (resumption l a b c d) μ k
      out (is_abstraction x r t) h e = inside e
      out (is_coroutine x r t) h e = inside e
      out (is_instance j r) h e = inside e
      out (is_atom j p) h e = inside e
      out (is_suspension_term t v) h e =
          let i = on_empty_inv (at μ l) (λ i. application c v ∣ put μ l (ready i t)) e in
          conv (ap (λ u. resumption l u b c d) h) i.2 (line (e_capture i.1))
      out is_other h e = inside e

      go : (z : Bool) → is_value a ≡ z →
          cond z (on_empty (at μ l) (λ i. application b a ∣ μ))
          (captured l (view a) c μ (within (λ t. resumption l t b c d) (next Q a μ))) ≡ Some k →
          Goes Q (resumption l a b c d) μ k
      go true v e = let i = on_empty_inv (at μ l) (λ i. application b a ∣ μ) e in conv refl i.2 (line (e_terminate v i.1))
      go false v e = out (view a) (shows a) e
