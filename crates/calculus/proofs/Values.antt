-- Values: their yield type is ⊥, none has type ⊥, and what they look like by their type.
use Rattle.std.proofs.Common.{◌≡◌, ℕ, suc, true, List, Some, refl}
use Rattle.calculus.specs.Lists.{at}
use Rattle.calculus.specs.Terms.{Term, unit, abstraction, coroutine, atom, instance, Value}
use Rattle.calculus.specs.Rows.{Row, unit_type, bottom_type, base_type, function_type, coroutine_type, instance_type, Setting, Is, WellFormed}
use Rattle.calculus.specs.Typing.{Scope, Typed, t_any_yield, t_unit, t_variable, t_abstraction, t_coroutine, t_apply, t_apply_coroutine, t_yield, t_start, t_resume, t_snapshot, t_fix, t_atom, t_operation, t_instance, t_resumption, t_suspension}
use Rattle.calculus.proofs.Tests.{never}

-- what a value is, by the kind of its row
abbrev pub Looks : Setting → List ℕ → Term → ℕ → Row → Type 0
Looks S Σ v T unit_type = v ≡ unit
Looks S Σ v T bottom_type = ⊥
Looks S Σ v T (base_type k) = (p : ℕ) × (v ≡ atom k p) × (S.set.holds k p ≡ true)
Looks S Σ v T (function_type A B) = (x : ℕ) × (b : Term) × (v ≡ abstraction x T b)
Looks S Σ v T (coroutine_type A W B) = (x : ℕ) × (b : Term) × (v ≡ coroutine x T b)
Looks S Σ v T (instance_type W B) = (l : ℕ) × (v ≡ instance l T) × (at Σ l ≡ Some T)

module _ {S : Setting} {Σ : List ℕ} where
  pub quiet_value : {Γ : Scope} {t : Term} {T Y : ℕ} → Value t → Typed S Σ Γ t T Y → Typed S Σ Γ t T 1
  quiet_value v (t_any_yield y d) = d
  quiet_value v t_unit = t_unit
  quiet_value v (t_variable e) = t_variable e
  quiet_value v (t_abstraction e d) = t_abstraction e d
  quiet_value v (t_coroutine e d) = t_coroutine e d
  quiet_value v (t_apply e f a) = never v
  quiet_value v (t_apply_coroutine e f a) = never v
  quiet_value v (t_yield d) = never v
  quiet_value v (t_start i r f a) = never v
  quiet_value v (t_resume i r₂ r₃ r₄ a b c d) = never v
  quiet_value v (t_snapshot i d) = never v
  quiet_value v (t_fix e d) = never v
  quiet_value v (t_atom k h) = t_atom k h
  quiet_value v (t_operation s a b) = never v
  quiet_value v (t_instance e i) = t_instance e i
  quiet_value v (t_resumption e i r₂ r₃ r₄ a b c d) = never v
  quiet_value v (t_suspension h d w) = never v

  module _ (L : WellFormed S) where
    pub looks : {Γ : Scope} {t : Term} {T Y : ℕ} {ty : Row} → Value t → Typed S Σ Γ t T Y → Is S T ty → Looks S Σ t T ty
    looks v (t_any_yield y d) e = looks v d e
    looks {ty = ty} v t_unit e = let q : unit_type ≡ ty = cc L.table_formed.row_unit in rw (← q) refl
    looks {ty = ty} v (t_abstraction {A = A} {B = B} h d) e = let q : function_type A B ≡ ty = cc in rw (← q) (_, _, refl)
    looks {ty = ty} v (t_coroutine {A = A} {W = W} {B = B} h d) e = let q : coroutine_type A W B ≡ ty = cc in rw (← q) (_, _, refl)
    looks {ty = ty} v (t_atom {k = k} {p = p} h g) e =
        let w : Is S (suc (suc k)) (base_type k) = L.table_formed.row_base k h in let q : base_type k ≡ ty = cc in rw (← q) (_, refl, g)
    looks {ty = ty} v (t_instance {W = W} {B = B} h i) e = let q : instance_type W B ≡ ty = cc in rw (← q) (_, refl, h)
    looks v (t_variable h) e = never v
    looks v (t_apply h f a) e = never v
    looks v (t_apply_coroutine h f a) e = never v
    looks v (t_yield d) e = never v
    looks v (t_start i r f a) e = never v
    looks v (t_resume i r₂ r₃ r₄ a b c d) e = never v
    looks v (t_snapshot i d) e = never v
    looks v (t_fix h d) e = never v
    looks v (t_operation s a b) e = never v
    looks v (t_resumption h i r₂ r₃ r₄ a b c d) e = never v
    looks v (t_suspension h d w) e = never v

    -- no value has type ⊥
    pub no_bottom : {Γ : Scope} {t : Term} {Y : ℕ} → Value t → Typed S Σ Γ t 1 Y → ⊥
    no_bottom v d = looks v d L.table_formed.row_bottom
