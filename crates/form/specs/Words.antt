-- The fault of one word of a term.
use Rattle.std.specs.Prelude.{ℕ, cond, List, Ok, Err, Result, ◌==◌, nat_lt}
use Rattle.faults.specs.declared.Fault.{Fault}
use Rattle.faults.specs.declared.numbers.FaultNumber.TheVariants.{TermWord, TermEnd, Depth}
use Rattle.faults.specs.Faults.{fault_of}
use Rattle.programs.specs.Terms.{word_rule}

-- after the term's end the depth is 0
abbrev pub word_fault : List ℕ → ℕ → ℕ → ℕ → Result (Unit {0}) Fault
word_fault rows w depth place =
    cond (depth == 0) (Err (fault_of TermEnd place))
    (cond (word_rule rows w) (cond (nat_lt 256 depth) (Err (fault_of Depth place)) (Ok tt)) (Err (fault_of TermWord place)))
