-- More labels and more in scope: what was typed stays so.
use Rattle.std.proofs.Common.{◌≡◌, ℕ, Bool, true, false, cond, eqb, List, [], Some}
use Rattle.calculus.specs.Lists.{at}
use Rattle.calculus.specs.Terms.{Term}
use Rattle.calculus.specs.Rows.{Setting}
use Rattle.calculus.specs.Typing.{Scope, bind, look, Typed, t_any_yield, t_unit, t_variable, t_abstraction, t_coroutine, t_apply, t_apply_coroutine, t_yield, t_start, t_resume, t_snapshot, t_fix, t_atom, t_operation, t_instance, t_resumption, t_suspension}

pub record Wider (Γ Δ : Scope) : Type 0 where
  pub keeps : (n T : ℕ) → look Γ n ≡ Some T → look Δ n ≡ Some T

pub record Longer (Σ Σ' : List ℕ) : Type 0 where
  pub still : (n T : ℕ) → at Σ n ≡ Some T → at Σ' n ≡ Some T

under : {Γ Δ : Scope} (x A : ℕ) → Wider Γ Δ → Wider (bind x A Γ) (bind x A Δ)
under {Γ} {Δ} x A w = record { keeps = λ n T. go n T (eqb n x) }
  where
    go : (n T : ℕ) (b : Bool) → cond b (Some A) (look Γ n) ≡ Some T → cond b (Some A) (look Δ n) ≡ Some T
    go n T true e = e
    go n T false e = w.keeps n T e

module _ {S : Setting} {Σ Σ' : List ℕ} (l : Longer Σ Σ') where
  pub weaken : {Γ Δ : Scope} {t : Term} {T Y : ℕ} → Wider Γ Δ → Typed S Σ Γ t T Y → Typed S Σ' Δ t T Y
  weaken w (t_any_yield y d) = t_any_yield y (weaken w d)
  weaken w t_unit = t_unit
  weaken w (t_variable e) = t_variable (w.keeps _ _ e)
  weaken w (t_abstraction e d) = t_abstraction e (weaken (under _ _ w) d)
  weaken w (t_coroutine e d) = t_coroutine e (weaken (under _ _ w) d)
  weaken w (t_apply e f a) = t_apply e (weaken w f) (weaken w a)
  weaken w (t_apply_coroutine e f a) = t_apply_coroutine e (weaken w f) (weaken w a)
  weaken w (t_yield d) = t_yield (weaken w d)
  weaken w (t_start i r f a) = t_start i r (weaken w f) (weaken w a)
  weaken w (t_resume i r₂ r₃ r₄ a b c d) = t_resume i r₂ r₃ r₄ (weaken w a) (weaken w b) (weaken w c) (weaken w d)
  weaken w (t_snapshot i d) = t_snapshot i (weaken w d)
  weaken w (t_fix e d) = t_fix e (weaken w d)
  weaken w (t_atom k h) = t_atom k h
  weaken w (t_operation s a b) = t_operation s (weaken w a) (weaken w b)
  weaken w (t_instance e i) = t_instance (l.still _ _ e) i
  weaken w (t_resumption e i r₂ r₃ r₄ a b c d) =
      t_resumption (l.still _ _ e) i r₂ r₃ r₄ (weaken w a) (weaken w b) (weaken w c) (weaken w d)
  weaken w (t_suspension h d v) = t_suspension h (weaken w d) (weaken w v)

pub longer_refl : {Σ : List ℕ} → Longer Σ Σ
longer_refl = record { still = λ n T e. e }

pub wider_nil : {Γ : Scope} → Wider [] Γ
wider_nil = record { keeps = λ n T e. cc }

pub wider_refl : {Γ : Scope} → Wider Γ Γ
wider_refl = record { keeps = λ n T e. e }
