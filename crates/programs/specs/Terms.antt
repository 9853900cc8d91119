-- Reading a program term word by word: the rule of a word, the terms that are open, and the first fault.
use Rattle.std.specs.Prelude.{ℕ, suc, ◌-◌, ◌/◌, ◌^◌, Bool, true, false, cond, ◌&&◌, List, [], ◌∷◌, length, Some, None, Option, ◌==◌, nat_le, nat_lt, slice_index}
use Rattle.faults.specs.declared.Fault.{Fault}
use Rattle.faults.specs.declared.numbers.FaultNumber.TheVariants.{TermWord, TermEnd, Depth}
use Rattle.faults.specs.Faults.{fault_of}
use Rattle.layout.specs.declared.Word.{Word}
use Rattle.layout.specs.declared.Word.TheVariants as W
use Rattle.layout.specs.Layout.{read_word}
use Rattle.encoding.specs.Scanning.{arity_of}

-- whether the word of row r has this kind; there is none from the number of rows on
abbrev pub row_has_kind : List ℕ → ℕ → ℕ → Bool
row_has_kind rows r kind = nat_lt r (length rows) && slice_index rows r / 2 ^ 27 == kind

-- The rule of a word of a program term: its kind is one from 0 to 11, and its row, where it has one, is a function type (kind 19), a
-- coroutine type (20) or an instance type (21) of the table.
abbrev pub may_be_in_term : List ℕ → Word → Bool
may_be_in_term rows W.Unit = true
may_be_in_term rows (W.Variable n) = true
may_be_in_term rows (W.Abstraction n r) = row_has_kind rows r 19
may_be_in_term rows (W.Coroutine n r) = row_has_kind rows r 20
may_be_in_term rows W.Application = true
may_be_in_term rows W.Yield = true
may_be_in_term rows (W.Start r) = row_has_kind rows r 21
may_be_in_term rows W.Resume = true
may_be_in_term rows W.Snapshot = true
may_be_in_term rows W.Fix = true
may_be_in_term rows (W.Atom b p) = true
may_be_in_term rows (W.Operation n) = true
may_be_in_term rows (W.Instance l r) = false
may_be_in_term rows (W.Resumption l) = false
may_be_in_term rows W.Suspension = false
may_be_in_term rows (W.Binding b r) = false
may_be_in_term rows W.UnitType = false
may_be_in_term rows W.BottomType = false
may_be_in_term rows (W.BaseType b) = false
may_be_in_term rows (W.FunctionType a b) = false
may_be_in_term rows (W.CoroutineType a y b) = false
may_be_in_term rows (W.InstanceType y b) = false
may_be_in_term rows (W.ProgramHead r t) = false
may_be_in_term rows (W.ImageHead u b) = false

abbrev pub read_may_be_in_term : List ℕ → Option Word → Bool
read_may_be_in_term rows None = false
read_may_be_in_term rows (Some x) = may_be_in_term rows x

abbrev pub word_rule : List ℕ → ℕ → Bool
word_rule rows w = read_may_be_in_term rows (read_word w)

-- The terms that are open, innermost first, each by how many of its parts are still to come, the one that comes next among them. The
-- whole term counts as the one part of an owner of its own, so at the start the list has the one entry 1, and the length of the list is
-- the depth of the word that comes next. It is empty once the whole term is read.

-- a term was read whole: its owner has one part fewer to come, and is itself read whole with the last
abbrev pub closed : List ℕ → List ℕ
closed [] = []
closed (n ∷ ns) = cond (nat_le n 1) (closed ns) ((n - 1) ∷ ns)

-- a word was read that has so many parts
abbrev pub opened : ℕ → List ℕ → List ℕ
opened parts ns = cond (parts == 0) (closed ns) (parts ∷ ns)

-- The first fault of the words from place i on, if there is one. A word after the term's end, or the end of the words before the term's,
-- comes before a word that breaks its rule, and that before a depth of 257.
abbrev pub term_fault : List ℕ → ℕ → List ℕ → List ℕ → Option Fault
term_fault rows i [] [] = None
term_fault rows i [] (w ∷ ws) = Some (fault_of TermEnd i)
term_fault rows i (n ∷ ns) [] = Some (fault_of TermEnd i)
term_fault rows i (n ∷ ns) (w ∷ ws) =
    cond (word_rule rows w)
    (cond (nat_lt 256 (length (n ∷ ns))) (Some (fault_of Depth i)) (term_fault rows (suc i) (opened (arity_of w) (n ∷ ns)) ws))
    (Some (fault_of TermWord i))
