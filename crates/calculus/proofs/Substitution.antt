-- The substitution lemma.
use Rattle.std.proofs.Common.{◌≡◌, ℕ, Bool, true, false, cond, eqb, List, [], Some, sym, refl, subst}
use Rattle.calculus.specs.Terms.{Term, unit, variable, abstraction, coroutine, application, yield, start, resume, snapshot, fix, atom, operation, instance, resumption, suspension, is_value}
use Rattle.calculus.specs.Replacement.{replace}
use Rattle.calculus.specs.Rows.{Setting}
use Rattle.calculus.specs.Typing.{Scope, bind, look, Typed, t_any_yield, t_unit, t_variable, t_abstraction, t_coroutine, t_apply, t_apply_coroutine, t_yield, t_start, t_resume, t_snapshot, t_fix, t_atom, t_operation, t_instance, t_resumption, t_suspension}
use Rattle.calculus.proofs.Tests.{same}
use Rattle.calculus.proofs.Weakening.{Wider, weaken, longer_refl, wider_nil}

pub replace_value : (x : ℕ) (s : Term) (v : Term) → is_value v ≡ true → is_value (replace x s v) ≡ true
replace_value y s unit h = h
replace_value y s (variable n) h = cc
replace_value y s (abstraction x r b) h = h
replace_value y s (coroutine x r b) h = h
replace_value y s (application f a) h = h
replace_value y s (yield t) h = h
replace_value y s (start i f a) h = h
replace_value y s (resume a b c d) h = h
replace_value y s (snapshot t) h = h
replace_value y s (fix t) h = h
replace_value y s (atom k p) h = h
replace_value y s (operation o a b) h = h
replace_value y s (instance l r) h = h
replace_value y s (resumption l a b c d) h = h
replace_value y s (suspension t v) h = h

-- Δ is Γ but for the name x, which has row A in Γ
pub record Without (x A : ℕ) (Γ Δ : Scope) : Type 0 where
  pub other : (n T : ℕ) → eqb n x ≡ false → look Γ n ≡ Some T → look Δ n ≡ Some T
  pub that : (n T : ℕ) → eqb n x ≡ true → look Γ n ≡ Some T → T ≡ A

module _ {S : Setting} {Σ : List ℕ} {x A : ℕ} {s : Term} (ds : Typed S Σ [] s A 1) where
  replaced_variable : {Γ Δ : Scope} (n T : ℕ) → Without x A Γ Δ → look Γ n ≡ Some T → Typed S Σ Δ (cond (eqb n x) s (variable n)) T 1
  replaced_variable {Γ} {Δ} n T w e = go (eqb n x) refl
    where
      go : (b : Bool) → eqb n x ≡ b → Typed S Σ Δ (cond b s (variable n)) T 1
      go true q = subst (λ U. Typed S Σ Δ s U 1) (sym (w.that n T q e)) (weaken longer_refl wider_nil ds)
      go false q = t_variable (w.other n T q e)

  below : {Γ Δ : Scope} {y B : ℕ} → eqb y x ≡ false → Without x A Γ Δ → Without x A (bind y B Γ) (bind y B Δ)
  below {Γ} {Δ} {y} {B} ne w = record { other = λ n T q. other n T q (eqb n y); that = λ n T q. that n T q (eqb n y) refl }
    where
      other : (n T : ℕ) → eqb n x ≡ false → (b : Bool) → cond b (Some B) (look Γ n) ≡ Some T → cond b (Some B) (look Δ n) ≡ Some T
      other n T q true e = e
      other n T q false e = w.other n T q e

      that : (n T : ℕ) → eqb n x ≡ true → (b : Bool) → eqb n y ≡ b → cond b (Some B) (look Γ n) ≡ Some T → T ≡ A
      that n T q true p e = let b : n ≡ y = same n y p in cc
      that n T q false p e = w.that n T q e

  below_same : {Γ Δ : Scope} {y B : ℕ} → eqb y x ≡ true → Without x A Γ Δ → Wider (bind y B Γ) (bind y B Δ)
  below_same {Γ} {Δ} {y} {B} p w = record { keeps = λ n T. go n T (eqb n y) refl }
    where
      go : (n T : ℕ) (b : Bool) → eqb n y ≡ b → cond b (Some B) (look Γ n) ≡ Some T → cond b (Some B) (look Δ n) ≡ Some T
      go n T true q e = e
      go n T false q e = let z : y ≡ x = same y x p in w.other n T (cc) e

  body : {Γ Δ : Scope} {y B T Y : ℕ} {b : Term} → Without x A Γ Δ → Typed S Σ (bind y B Γ) b T Y →
      (Without x A (bind y B Γ) (bind y B Δ) → Typed S Σ (bind y B Δ) (replace x s b) T Y) →
      Typed S Σ (bind y B Δ) (cond (eqb y x) b (replace x s b)) T Y
  body {Γ} {Δ} {y} {B} {T} {Y} {b} w d again = go (eqb y x) refl
    where
      go : (c : Bool) → eqb y x ≡ c → Typed S Σ (bind y B Δ) (cond c b (replace x s b)) T Y
      go true q = weaken longer_refl (below_same q w) d
      go false q = again (below q w)

  pub replaced : {Γ Δ : Scope} {t : Term} {T Y : ℕ} → Without x A Γ Δ → Typed S Σ Γ t T Y → Typed S Σ Δ (replace x s t) T Y
  replaced w (t_any_yield y d) = t_any_yield y (replaced w d)
  replaced w t_unit = t_unit
  replaced w (t_variable e) = replaced_variable _ _ w e
  replaced w (t_abstraction e d) = t_abstraction e (body w d (λ v. replaced v d))
  replaced w (t_coroutine e d) = t_coroutine e (body w d (λ v. replaced v d))
  replaced w (t_apply e f a) = t_apply e (replaced w f) (replaced w a)
  replaced w (t_apply_coroutine e f a) = t_apply_coroutine e (replaced w f) (replaced w a)
  replaced w (t_yield d) = t_yield (replaced w d)
  replaced w (t_start i r f a) = t_start i r (replaced w f) (replaced w a)
  replaced w (t_resume i r₂ r₃ r₄ a b c d) = t_resume i r₂ r₃ r₄ (replaced w a) (replaced w b) (replaced w c) (replaced w d)
  replaced w (t_snapshot i d) = t_snapshot i (replaced w d)
  replaced w (t_fix e d) = t_fix e (replaced w d)
  replaced w (t_atom k h) = t_atom k h
  replaced w (t_operation s a b) = t_operation s (replaced w a) (replaced w b)
  replaced w (t_instance e i) = t_instance e i
  replaced w (t_resumption e i r₂ r₃ r₄ a b c d) =
      t_resumption e i r₂ r₃ r₄ (replaced w a) (replaced w b) (replaced w c) (replaced w d)
  replaced w (t_suspension {v = v} h d e) = t_suspension (replace_value x s v h) (replaced w d) (replaced w e)

  innermost : {Γ : Scope} → Without x A (bind x A Γ) Γ
  innermost {Γ} = record { other = λ n T q. other n T (eqb n x) q; that = λ n T q. that n T (eqb n x) q }
    where
      other : (n T : ℕ) (b : Bool) → b ≡ false → cond b (Some A) (look Γ n) ≡ Some T → look Γ n ≡ Some T
      other n T true q e = cc
      other n T false q e = e

      that : (n T : ℕ) (b : Bool) → b ≡ true → cond b (Some A) (look Γ n) ≡ Some T → T ≡ A
      that n T true q e = cc
      that n T false q e = cc

  -- the substitution lemma, for the innermost name
  pub substitution : {Γ : Scope} {t : Term} {T Y : ℕ} → Typed S Σ (bind x A Γ) t T Y → Typed S Σ Γ (replace x s t) T Y
  substitution d = replaced innermost d
