-- Scopes: what is in scope has a row of the table, also in the parts of a term.
use Rattle.std.proofs.Common.{◌≡◌, ℕ, zero, suc, ◌<◌, Bool, true, false, cond, eqb, List, [], ◌∷◌, length, Some, None, Option, refl, ap, ◌∙◌, subst, arith}
use Rattle.quantities.specs.Meaning.{StatedAt}
use Rattle.rules.specs.declared.model.Variable.{Variable}
use Rattle.rules.specs.declared.model.Shape.{Shape}
use Rattle.rules.specs.declared.model.Shape.TheVariants.{UnitRow, BottomRow, BaseRow, FunctionRow, CoroutineRow, InstanceRow, NoRow}
use Rattle.rules.specs.Table.{shape_at, argument_of}
use Rattle.calculus.specs.Lists.{at}
use Rattle.calculus.specs.Terms.{Term, unit, variable, abstraction, coroutine, application, yield, start, resume, snapshot, fix, atom, operation, instance, resumption, suspension}
use Rattle.calculus.specs.Rows.{Row, unit_type, bottom_type, base_type, function_type, coroutine_type, instance_type, Setting, IsRow, Is, WellFormed}
use Rattle.calculus.specs.Typing.{Scope, bind, look, InScope, Typed, t_any_yield, t_unit, t_variable, t_abstraction, t_coroutine, t_apply, t_apply_coroutine, t_yield, t_start, t_resume, t_snapshot, t_fix, t_atom, t_operation, t_instance, t_resumption, t_suspension}
use Rattle.judging.specs.Answers.{scope_of}
use Rattle.judging.specs.Places.{argument_in, inner}
use Rattle.judging.proofs.Tables.{row_of, Means}
use Rattle.judging.proofs.Ruled.{inner_scope}

at_lt : {A : Type 0} (xs : List A) (n : ℕ) (x : A) → at xs n ≡ Some x → n < length xs
at_lt [] n x e = let z : ◌≡◌ {A = ℕ} 0 1 = cc in absurd (omega arith)
at_lt (y ∷ xs) zero x e = omega arith
at_lt (y ∷ xs) (suc n) x e = let h = at_lt xs n x e in omega arith

pub in_bind : (S : Setting) (Γ : Scope) (x A : ℕ) → IsRow S A → InScope S Γ → InScope S (bind x A Γ)
in_bind S Γ x A a g = record { is_row = λ n T. go n T (eqb n x) }
  where
    go : (n T : ℕ) (b : Bool) → cond b (Some A) (look Γ n) ≡ Some T → IsRow S T
    go n T true e = let z : A ≡ T = cc in subst (λ (k : ℕ). IsRow S k) z a
    go n T false e = g.is_row n T e

module _ (S : Setting) (L : WellFormed S) where
  row : {r : ℕ} {ty : Row} → Is S r ty → IsRow S r
  row {r} {ty} e = at_lt S.table r ty e

  -- a type is a row of the table
  pub type_is_row : {Σ : List ℕ} {Γ : Scope} {t : Term} {T Y : ℕ} → InScope S Γ → Typed S Σ Γ t T Y → IsRow S T
  type_is_row g (t_any_yield y d) = type_is_row g d
  type_is_row g t_unit = row L.table_formed.row_unit
  type_is_row g (t_variable e) = g.is_row _ _ e
  type_is_row g (t_abstraction e d) = row e
  type_is_row g (t_coroutine e d) = row e
  type_is_row g (t_apply e f a) = let b = L.table_formed.earlier _ _ e in let n = row e in omega arith
  type_is_row g (t_apply_coroutine e f a) = let b = L.table_formed.earlier _ _ e in let n = row e in omega arith
  type_is_row g (t_yield d) = row L.table_formed.row_unit
  type_is_row g (t_start i r f a) = row i
  type_is_row g (t_resume i r₂ r₃ r₄ a b c d) = let b = L.table_formed.earlier _ _ r₂ in let n = row r₂ in omega arith
  type_is_row g (t_snapshot i d) = row i
  type_is_row g (t_fix e d) = let b = L.table_formed.earlier _ _ e in let n = row e in omega arith
  type_is_row g (t_atom k h) = row (L.table_formed.row_base _ k)
  type_is_row g (t_operation {o = o} {s = s} e a b) =
      let st = subst (StatedAt S.set) e (L.set_lawful.stated o) in row (L.table_formed.row_base s.result st.2)
  type_is_row g (t_instance e i) = row i
  type_is_row g (t_resumption e i r₂ r₃ r₄ a b c d) = let b = L.table_formed.earlier _ _ r₂ in let n = row r₂ in omega arith
  type_is_row g (t_suspension h d v) = type_is_row g d

  argument_is_row : (r : ℕ) → IsRow S (argument_in (at S.table r))
  argument_is_row r = by (at S.table r) refl
    where
      by : (o : Option Row) → at S.table r ≡ o → IsRow S (argument_in o)
      by None e = row L.table_formed.row_unit
      by (Some unit_type) e = row L.table_formed.row_unit
      by (Some bottom_type) e = row L.table_formed.row_unit
      by (Some (base_type k)) e = row L.table_formed.row_unit
      by (Some (function_type A B)) e = let k = L.table_formed.earlier r (function_type A B) e in let n = row e in omega arith
      by (Some (coroutine_type A W B)) e = let k = L.table_formed.earlier r (coroutine_type A W B) e in let n = row e in omega arith
      by (Some (instance_type W B)) e = row L.table_formed.row_unit

  pub inner_in_scope : (t : Term) (Γ : Scope) → InScope S Γ → InScope S (inner S t Γ)
  inner_in_scope unit Γ g = g
  inner_in_scope (variable x) Γ g = g
  inner_in_scope (abstraction x r b) Γ g = in_bind S Γ x _ (argument_is_row r) g
  inner_in_scope (coroutine x r b) Γ g = in_bind S Γ x _ (argument_is_row r) g
  inner_in_scope (application f a) Γ g = g
  inner_in_scope (yield a) Γ g = g
  inner_in_scope (start r f a) Γ g = g
  inner_in_scope (resume a b c d) Γ g = g
  inner_in_scope (snapshot a) Γ g = g
  inner_in_scope (fix a) Γ g = g
  inner_in_scope (atom k p) Γ g = g
  inner_in_scope (operation o a b) Γ g = g
  inner_in_scope (instance l r) Γ g = g
  inner_in_scope (resumption l a b c d) Γ g = g
  inner_in_scope (suspension a b) Γ g = g

-- the scope of the parts, by words and by types
module _ (S : Setting) (rows : List ℕ) (means : Means rows S.table) where
  argument_same : (r : ℕ) → argument_of (shape_at rows r) ≡ argument_in (at S.table r)
  argument_same r = by (shape_at rows r) ∙ ap argument_in (means r)
    where
      by : (s : Shape) → argument_of s ≡ argument_in (row_of s)
      by UnitRow = refl
      by BottomRow = refl
      by (BaseRow k) = refl
      by (FunctionRow a b) = refl
      by (CoroutineRow a w b) = refl
      by (InstanceRow w b) = refl
      by NoRow = refl

  pub inner_same : (t : Term) (Γ : List Variable) → scope_of (inner_scope rows t Γ) ≡ inner S t (scope_of Γ)
  inner_same unit Γ = refl
  inner_same (variable x) Γ = refl
  inner_same (abstraction x r b) Γ = ap (λ A. bind x A (scope_of Γ)) (argument_same r)
  inner_same (coroutine x r b) Γ = ap (λ A. bind x A (scope_of Γ)) (argument_same r)
  inner_same (application f a) Γ = refl
  inner_same (yield a) Γ = refl
  inner_same (start r f a) Γ = refl
  inner_same (resume a b c d) Γ = refl
  inner_same (snapshot a) Γ = refl
  inner_same (fix a) Γ = refl
  inner_same (atom k p) Γ = refl
  inner_same (operation o a b) Γ = refl
  inner_same (instance l r) Γ = refl
  inner_same (resumption l a b c d) Γ = refl
  inner_same (suspension a b) Γ = refl
