-- Steps and takes keep the rules of a configuration.
use Rattle.std.proofs.Common.{◌≡◌, ℕ, zero, suc, ◌<◌, ◌≤◌, ◌⊎◌, List, [], ◌∷◌, ◌++◌, length, Some, sym, refl, ap, subst, inl, inr, arith}
use Rattle.quantities.specs.Meaning.{Meaning}
use Rattle.calculus.specs.Lists.{at, put}
use Rattle.calculus.specs.Terms.{Term, unit, variable, abstraction, coroutine, application, yield, start, resume, snapshot, fix, atom, operation, instance, resumption, suspension, Program}
use Rattle.calculus.specs.Replacement.{replace}
use Rattle.calculus.specs.Configurations.{Binding, empty, ready, Bindings, Formed, Configured}
use Rattle.calculus.specs.Lines.{e_pause, e_apply, e_apply_coroutine, e_fix, e_yield, e_start, e_resume_ready, e_resume_empty, e_capture, e_terminate, e_snapshot, e_operate}
use Rattle.calculus.specs.Steps.{Step, line, e_context, e_executing}
use Rattle.calculus.specs.Statements.{RulesKept}
use Rattle.calculus.proofs.Bindings.{at_appended, at_put}
use Rattle.calculus.proofs.Formed.{formed_more, formed_replace, formed_part, formed_plug}

pub put_length : {A : Type 0} (xs : List A) (l : ℕ) (y : A) → length (put xs l y) ≡ length xs
put_length [] l y = refl
put_length (x ∷ xs) zero y = refl
put_length (x ∷ xs) (suc l) y = ap suc (put_length xs l y)

append_length : {A : Type 0} (xs : List A) (y : A) → length (xs ++ y ∷ []) ≡ suc (length xs)
append_length [] y = refl
append_length (x ∷ xs) y = ap suc (append_length xs y)

-- the body of a binding, if it is ready
abbrev BodyFormed : ℕ → Binding → Type 0
BodyFormed n (empty i) = Unit {0}
BodyFormed n (ready i t) = Formed n t

record BodiesFormed (n : ℕ) (μ : Bindings) : Type 0 where
  each : (l i : ℕ) (b : Term) → at μ l ≡ Some (ready i b) → Formed n b

-- every binding of the new ones is an old one, or γ
bodies_change : {m n : ℕ} {μ μ' : Bindings} → m ≤ n → (γ : Binding) →
    ((l : ℕ) (β : Binding) → at μ' l ≡ Some β → (at μ l ≡ Some β) ⊎ (β ≡ γ)) → BodyFormed n γ → BodiesFormed m μ → BodiesFormed n μ'
bodies_change {m} {n} {μ} h γ old new st = record { each = λ l i b e. go l i b (old l (ready i b) e) }
  where
    go : (l i : ℕ) (b : Term) → (at μ l ≡ Some (ready i b)) ⊎ (ready i b ≡ γ) → Formed n b
    go l i b (inl e) = formed_more h b (st.each l i b e)
    go l i b (inr e) = let P : Binding → Type 0 = BodyFormed n in subst P (sym e) new

record After (t' : Term) (μ μ' : Bindings) : Type 0 where
  more : length μ ≤ length μ'
  formed : Formed (length μ') t'
  bodies : BodiesFormed (length μ') μ'

stays : {t' : Term} {μ : Bindings} → BodiesFormed (length μ) μ → Formed (length μ) t' → After t' μ μ
stays st f = record { more = omega arith; formed = f; bodies = st }

-- a binding is changed
changes : {t' : Term} (μ : Bindings) (l : ℕ) (γ : Binding) → BodiesFormed (length μ) μ → Formed (length μ) t' → BodyFormed (length μ) γ →
    After t' μ (put μ l γ)
changes μ l γ st f g =
    let e = put_length μ l γ in let k : length μ ≤ length (put μ l γ) = omega arith in
    record { more = k; formed = rw e f; bodies = bodies_change k γ (at_put μ l γ) (rw e g) st }

-- a binding is added
adds : {r : ℕ} (μ : Bindings) (γ : Binding) → BodiesFormed (length μ) μ → BodyFormed (length (μ ++ γ ∷ [])) γ →
    After (instance (length μ) r) μ (μ ++ γ ∷ [])
adds μ γ st g =
    let e = append_length μ γ in let k : length μ ≤ length (μ ++ γ ∷ []) = omega arith in
    record { more = k; formed = omega arith; bodies = bodies_change k γ (at_appended μ γ) g st }

one_more : (μ : Bindings) (γ : Binding) → length μ ≤ length (μ ++ γ ∷ [])
one_more μ γ = let e = append_length μ γ in omega arith

module _ {Q : Meaning} where
  after : {t t' : Term} {μ μ' : Bindings} → BodiesFormed (length μ) μ → Step Q t μ t' μ' → Formed (length μ) t → After t' μ μ'
  after st (e_context F {t = t} {t' = t'} p s) f =
      let a = after st s (formed_part _ F t f) in
      record { more = a.more; formed = formed_plug a.more F t t' f a.formed; bodies = a.bodies }
  after st (e_executing {l = l} {b = b} {c = c} {d = d} {μ = μ} {μ' = μ'} s) f =
      let k = f.2 in let a = after st s k.0 in let h = a.more in let below : l < length μ = f.0 in
      record {
        more = h;
        formed = (omega arith, f.1, (a.formed, formed_more h b k.1, formed_more h c k.2, formed_more h d k.3));
        bodies = a.bodies;
      }
  after st (line (e_pause F t v p)) f =
      let k = formed_part _ F (suspension t v) f in
      stays st (k.0, formed_plug (omega arith) F (suspension t v) t f k.1, k.2)
  after st (line (e_apply {x = x} {b = b} {v = v} h)) f = stays st (formed_replace _ x v f.1 b f.0)
  after st (line (e_apply_coroutine {x = x} {b = b} {v = v} h)) f = stays st (formed_replace _ x v f.1 b f.0)
  after st (line (e_fix {x = x} {r = r} {b = b})) f = stays st (formed_replace _ x (fix (abstraction x r b)) f b f)
  after st (line (e_yield h)) f = stays st (h, tt, f)
  after st (line (e_start {i = i} {x = x} {b = b} {v = v} {μ = μ} h)) f =
      let γ : Binding = ready i (replace x v b) in
      adds μ γ st (formed_more (one_more μ γ) (replace x v b) (formed_replace _ x v f.1 b f.0))
  after st (line (e_resume_ready {l = l} {i = i} {t = t} {μ = μ} hb hc hd e)) f =
      changes μ l (empty i) st (f.0, (hb, hc, hd), (st.each l i t e, f.1, f.2, f.3)) tt
  after st (line (e_resume_empty hb hc hd e)) f = stays st (f.3, tt)
  after st (line (e_capture {l = l} {i = i} {t = t} {μ = μ} e)) f =
      let k = f.2 in let s = k.0 in changes μ l (ready i t) st (k.2, s.2) s.1
  after st (line (e_terminate h e)) f = let k = f.2 in stays st (k.1, k.0)
  after st (line (e_snapshot {l = l} {β = β} {μ = μ} e)) f = adds μ β st (copy β e)
    where
      copy : (γ : Binding) → at μ l ≡ Some γ → BodyFormed (length (μ ++ β ∷ [])) γ
      copy (empty i) q = tt
      copy (ready i t) q = formed_more (one_more μ β) t (st.each l i t q)
  after st (line (e_operate e p q)) f = stays st tt

  pub keeps_configured : {t t' : Term} {μ μ' : Bindings} → Configured t μ → Step Q t μ t' μ' → Configured t' μ'
  keeps_configured c s =
      let a = after (record { each = c.bodies_formed }) s c.term_formed in
      record { term_formed = a.formed; bodies_formed = a.bodies.each }

pub take_configured : {t v : Term} {μ : Bindings} → Configured (suspension t v) μ → Configured t μ
take_configured c = record { term_formed = c.term_formed.1; bodies_formed = c.bodies_formed }

program_formed : (t : Term) → Program t → Formed 0 t
program_formed unit p = tt
program_formed (variable n) p = tt
program_formed (abstraction x r b) p = program_formed b p
program_formed (coroutine x r b) p = program_formed b p
program_formed (application f a) p = (program_formed f p.0, program_formed a p.1)
program_formed (yield t) p = program_formed t p
program_formed (start i f a) p = (program_formed f p.0, program_formed a p.1)
program_formed (resume a b c d) p =
    (program_formed a p.0, program_formed b p.1, program_formed c p.2, program_formed d p.3)
program_formed (snapshot t) p = program_formed t p
program_formed (fix t) p = program_formed t p
program_formed (atom k q) p = tt
program_formed (operation o a b) p = (program_formed a p.0, program_formed b p.1)
program_formed (instance l r) p = absurd p
program_formed (resumption l a b c d) p = absurd p
program_formed (suspension t v) p = absurd p

pub program_configured : (t : Term) → Program t → Configured t []
program_configured t p = record {
  term_formed = program_formed t p;
  bodies_formed = λ l i b e. let z : ◌≡◌ {A = ℕ} 0 1 = cc in absurd (omega arith);
}

pub rules_kept : RulesKept
rules_kept = (λ Q t t' μ μ' c s. keeps_configured c s, λ t v μ c. take_configured c, program_configured)
