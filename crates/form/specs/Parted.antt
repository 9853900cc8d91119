-- What the form reader's answers say, as words.
use Rattle.std.specs.Prelude.{ℕ, Some, None, Ok, Err, Option, Result}
use Rattle.faults.specs.declared.Fault.{Fault}
use Rattle.programs.specs.Reading.{Stated, Split}
use Rattle.form.specs.declared.program.Program.{Program}

-- the words of the parts, or the fault
abbrev pub words_of : Result Program Fault → Result Split Fault
words_of (Ok p) = Ok (record { rows = p.rows.now; term = p.term.now })
words_of (Err f) = Err f

-- nothing to say, or the fault
abbrev pub fine : Option Fault → Result (Unit {0}) Fault
fine None = Ok tt
fine (Some f) = Err f

-- the counts of a head
abbrev pub counts : Option (ℕ × ℕ) → Option Stated
counts None = None
counts (Some c) = Some (record { rows = c.0; term_words = c.1 })
