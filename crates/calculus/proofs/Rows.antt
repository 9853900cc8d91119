-- Types and yield types are rows of the table; the law of the set at an operation.
use Rattle.std.proofs.Common.{◌≡◌, ℕ, zero, suc, ◌<◌, true, List, [], ◌∷◌, length, Some, subst, arith}
use Rattle.quantities.specs.declared.Signature.{Signature}
use Rattle.quantities.specs.Meaning.{StatedAt, ClosedAt}
use Rattle.calculus.specs.Lists.{at}
use Rattle.calculus.specs.Terms.{Term}
use Rattle.calculus.specs.Rows.{Row, Setting, IsRow, Is, WellFormed}
use Rattle.calculus.specs.Typing.{Scope, InScope, Typed, t_any_yield, t_unit, t_variable, t_abstraction, t_coroutine, t_apply, t_apply_coroutine, t_yield, t_start, t_resume, t_snapshot, t_fix, t_atom, t_operation, t_instance, t_resumption, t_suspension}
use Rattle.calculus.specs.Statements.{RowsOfTheTable}

pub at_lt : {A : Type 0} (xs : List A) (n : ℕ) {x : A} → at xs n ≡ Some x → n < length xs
at_lt [] n e = let z : ◌≡◌ {A = ℕ} 0 1 = cc in omega arith
at_lt (y ∷ xs) zero e = omega arith
at_lt (y ∷ xs) (suc n) e = let h = at_lt xs n e in omega arith

-- the bases of a signature are bases of the set, and operands of the stated bases give a result of the stated base
pub closed : {S : Setting} → WellFormed S → (o : ℕ) (s : Signature) → S.set.signature o ≡ Some s →
    (s.first < S.set.bases) × (s.second < S.set.bases) × (s.result < S.set.bases) ×
    ((p q : ℕ) → S.set.holds s.first p ≡ true → S.set.holds s.second q ≡ true →
    S.set.holds s.result (S.set.result o p q) ≡ true)
closed {S} L o s e =
    let st = subst (StatedAt S.set) e (L.set_lawful.stated o) in
    let cl = subst (ClosedAt S.set o) e (L.set_lawful.closed o) in
    (st.0, st.1, st.2, λ p q hp hq. (cl p q hp hq).0)

module _ {S : Setting} (L : WellFormed S) where
  pub row : {r : ℕ} {ty : Row} → Is S r ty → IsRow S r
  row {r} e = at_lt S.table r e

  pub one : IsRow S 1
  one = row L.table_formed.row_bottom

  pub regular : {Σ : List ℕ} {Γ : Scope} {t : Term} {T Y : ℕ} → InScope S Γ → Typed S Σ Γ t T Y → IsRow S T × IsRow S Y
  regular g (t_any_yield y d) = ((regular g d).0, y)
  regular g t_unit = (row L.table_formed.row_unit, one)
  regular g (t_variable e) = (g.is_row _ _ e, one)
  regular g (t_abstraction e d) = (row e, one)
  regular g (t_coroutine e d) = (row e, one)
  regular g (t_apply e f a) = let b = L.table_formed.earlier _ _ e in let n = row e in (omega arith, (regular g f).1)
  regular g (t_apply_coroutine e f a) = let b = L.table_formed.earlier _ _ e in let n = row e in (omega arith, (regular g f).1)
  regular g (t_yield d) = (row L.table_formed.row_unit, (regular g d).1)
  regular g (t_start i r f a) = (row i, (regular g f).1)
  regular g (t_resume i r₂ r₃ r₄ a b c d) = let b = L.table_formed.earlier _ _ r₂ in let n = row r₂ in (omega arith, (regular g a).1)
  regular g (t_snapshot i d) = regular g d
  regular g (t_fix e d) = let b = L.table_formed.earlier _ _ e in let n = row e in (omega arith, one)
  regular g (t_atom k h) = (row (L.table_formed.row_base _ k), one)
  regular g (t_operation s a b) = (row (L.table_formed.row_base _ (closed L _ _ s).2), (regular g a).1)
  regular g (t_instance e i) = (row i, one)
  regular g (t_resumption e i r₂ r₃ r₄ a b c d) = let b = L.table_formed.earlier _ _ r₂ in let n = row r₂ in (omega arith, omega arith)
  regular g (t_suspension h d v) = regular g d

pub rows_of_the_table : RowsOfTheTable
rows_of_the_table S L Σ Γ g t T Y d = regular L g d
