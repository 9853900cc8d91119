-- What admit answers.
use Rattle.std.specs.Prelude.{ℕ, suc, cond, ◌||◌, List, [], length, drop, Ok, Err, Result, nat_lt}
use Rattle.faults.specs.declared.Fault.{Fault}
use Rattle.faults.specs.declared.numbers.FaultNumber.TheVariants.{WorkShort}
use Rattle.quantities.specs.Meaning.{Meaning}
use Rattle.programs.specs.Reading.{Split, read_program}
use Rattle.faults.specs.Faults.{fault_of}
use Rattle.rules.specs.Rules.{Verdict}
use Rattle.typing.specs.Machine.{run}

-- the check of what was read, with room for s variables in scope and n unfinished judgements; the term is the words after head and rows
abbrev pub checked_parts : Meaning → List ℕ → ℕ → ℕ → Result Split Fault → Verdict
checked_parts m words s n (Err f) = Err f
checked_parts m words s n (Ok p) = run m p.rows s n (suc (length p.rows)) [] [] (drop (suc (length p.rows)) words)

-- fault 1 where a list has under 256 entries, then the form reader's fault, then what the check says
abbrev pub admit_answer : Meaning → List ℕ → ℕ → ℕ → Verdict
admit_answer m words s n =
    cond (nat_lt s 256 || nat_lt n 256) (Err (fault_of WorkShort 0)) (checked_parts m words s n (read_program m.bases words))
