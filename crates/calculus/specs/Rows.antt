-- Rows: the types of a program, in a table; a type is known by the number of its row.
use Rattle.std.specs.Prelude.{◌≡◌, ℕ, suc, ◌<◌, ◌≤◌, List, length, Some}
use Rattle.quantities.specs.Meaning.{Meaning, Lawful}
use Rattle.calculus.specs.Lists.{at}

-- A row of the type table. A number in it is that of a row, but for a base, which is a number of the quantity set.
pub data Row : Type 0 where
  unit_type : Row
  bottom_type : Row
  base_type : (base : ℕ) → Row
  function_type : (argument : ℕ) → (result : ℕ) → Row
  coroutine_type : (argument : ℕ) → (yields : ℕ) → (result : ℕ) → Row
  instance_type : (yields : ℕ) → (result : ℕ) → Row

-- the numbers of the first rows: Unit, ⊥, and then the bases of the set
abbrev pub unit_row : ℕ
unit_row = 0

abbrev pub bottom_row : ℕ
bottom_row = 1

abbrev pub base_row : ℕ → ℕ
base_row k = suc (suc k)

-- What a program fixes: the table of its types, and the quantity set that it computes with.
pub record Setting : Type 0 where
  pub table : List Row
  pub set : Meaning

-- the number is that of a row
abbrev pub IsRow : Setting → ℕ → Type 0
IsRow S r = r < length S.table

-- what stands at a row
abbrev pub Is : Setting → ℕ → Row → Type 0
Is S r ty = at S.table r ≡ Some ty

-- the rows that a type refers to come before row r
abbrev pub Before : ℕ → Row → Type 0
Before r unit_type = Unit {0}
Before r bottom_type = Unit {0}
Before r (base_type k) = Unit {0}
Before r (function_type A B) = (A < r) × (B < r)
Before r (coroutine_type A W B) = (A < r) × (W < r) × (B < r)
Before r (instance_type W B) = (W < r) × (B < r)

-- a function, coroutine or instance type
abbrev pub Compound : Row → Type 0
Compound unit_type = ⊥
Compound bottom_type = ⊥
Compound (base_type k) = ⊥
Compound (function_type A B) = Unit {0}
Compound (coroutine_type A W B) = Unit {0}
Compound (instance_type W B) = Unit {0}

-- The rules of a table, over a set with K bases.
pub record TableFormed (K : ℕ) (table : List Row) : Type 0 where
  -- the first rows are Unit, ⊥ and the bases of the set
  pub row_unit : at table unit_row ≡ Some unit_type
  pub row_bottom : at table bottom_row ≡ Some bottom_type
  pub row_base : (k : ℕ) → k < K → at table (base_row k) ≡ Some (base_type k)
  -- a later row is a function, coroutine or instance type
  pub row_later : (r : ℕ) (ty : Row) → base_row K ≤ r → at table r ≡ Some ty → Compound ty
  -- a row refers to earlier rows only
  pub earlier : (r : ℕ) (ty : Row) → at table r ≡ Some ty → Before r ty
  -- no two rows are alike
  pub distinct : (r s : ℕ) (ty : Row) → at table r ≡ Some ty → at table s ≡ Some ty → r ≡ s

-- The rules of a setting: its table keeps the rules for its set, and the set keeps its law.
pub record WellFormed (S : Setting) : Type 0 where
  pub table_formed : TableFormed S.set.bases S.table
  pub set_lawful : Lawful S.set
