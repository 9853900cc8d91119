-- Reading rows: where a row may stand, and the first fault among the rows.
use Rattle.std.specs.Prelude.{ℕ, suc, ◌+◌, Bool, false, cond, ◌&&◌, ◌||◌, List, [], ◌∷◌, ◌++◌, Some, None, Option, ◌==◌, nat_le, nat_lt}
use Rattle.faults.specs.declared.Fault.{Fault}
use Rattle.faults.specs.declared.numbers.FaultNumber.TheVariants.{Row as RowFault, RowTwice}
use Rattle.faults.specs.Faults.{fault_of}
use Rattle.calculus.specs.Rows.{Row, unit_type, bottom_type, base_type, function_type, coroutine_type, instance_type}
use Rattle.layout.specs.declared.Word.{Word}
use Rattle.layout.specs.declared.Word.TheVariants as W
use Rattle.layout.specs.Layout.{read_word}

-- the row that a word is, if it is one
abbrev pub as_row : Word → Option Row
as_row W.Unit = None
as_row (W.Variable n) = None
as_row (W.Abstraction n r) = None
as_row (W.Coroutine n r) = None
as_row W.Application = None
as_row W.Yield = None
as_row (W.Start r) = None
as_row W.Resume = None
as_row W.Snapshot = None
as_row W.Fix = None
as_row (W.Atom b p) = None
as_row (W.Operation n) = None
as_row (W.Instance l r) = None
as_row (W.Resumption l) = None
as_row W.Suspension = None
as_row (W.Binding b r) = None
as_row W.UnitType = Some unit_type
as_row W.BottomType = Some bottom_type
as_row (W.BaseType b) = Some (base_type b)
as_row (W.FunctionType a b) = Some (function_type a b)
as_row (W.CoroutineType a y b) = Some (coroutine_type a y b)
as_row (W.InstanceType y b) = Some (instance_type y b)
as_row (W.ProgramHead r t) = None
as_row (W.ImageHead u b) = None

-- Whether a row may have number r over a set with K bases: row 0 is Unit, row 1 is ⊥, rows 2 to K + 1 are the bases in order; a later
-- row is a function, coroutine or instance type and refers to earlier rows only.
abbrev pub may_stand : ℕ → ℕ → Row → Bool
may_stand K r unit_type = r == 0
may_stand K r bottom_type = r == 1
may_stand K r (base_type k) = nat_lt k K && r == k + 2
may_stand K r (function_type a b) = nat_le (K + 2) r && (nat_lt a r && nat_lt b r)
may_stand K r (coroutine_type a y b) = nat_le (K + 2) r && (nat_lt a r && (nat_lt y r && nat_lt b r))
may_stand K r (instance_type y b) = nat_le (K + 2) r && (nat_lt y r && nat_lt b r)

abbrev pub row_may_stand : ℕ → ℕ → Option Row → Bool
row_may_stand K r None = false
row_may_stand K r (Some row) = may_stand K r row

-- a word's rule as row r
abbrev pub word_may_stand : ℕ → ℕ → Option Word → Bool
word_may_stand K r None = false
word_may_stand K r (Some x) = row_may_stand K r (as_row x)

abbrev pub row_rule : ℕ → ℕ → ℕ → Bool
row_rule K r w = word_may_stand K r (read_word w)

-- whether a number is among some
abbrev pub among : ℕ → List ℕ → Bool
among w [] = false
among w (v ∷ vs) = v == w || among w vs

-- The first fault of the rows from row r on, those before being given: a row that breaks its rule, or that equals an earlier one. The
-- word of row r has number r + 1 in the program.
abbrev pub rows_fault : ℕ → ℕ → List ℕ → List ℕ → Option Fault
rows_fault K r before [] = None
rows_fault K r before (w ∷ ws) =
    cond (row_rule K r w)
    (cond (among w before) (Some (fault_of RowTwice (suc r))) (rows_fault K (suc r) (before ++ w ∷ []) ws))
    (Some (fault_of RowFault (suc r)))
