-- What admit's answer says of a program, in the words of the calculus.
use Rattle.std.specs.Prelude.{◌≡◌, ℕ, suc, ◌⊎◌, ◌↔◌, List, length, Err}
use Rattle.faults.specs.declared.Fault.{Fault}
use Rattle.quantities.specs.Meaning.{Meaning}
use Rattle.calculus.specs.Terms.{Term}
use Rattle.calculus.specs.Rows.{Row, Setting}
use Rattle.programs.specs.Programs.{ProgramWords}
use Rattle.programs.specs.Reading.{read_program}
use Rattle.rules.specs.Rules.{Verdict, accepted}
use Rattle.judging.specs.Answers.{Least}
use Rattle.judging.specs.Places.{Located}

-- what a program with this table fixes, over a set
abbrev pub setting : Meaning → List Row → Setting
setting m table = record { table = table; set = m }

-- The words are those of a program whose term has type T and least yield type Y.
pub record Admitted (m : Meaning) (words : List ℕ) (T Y : ℕ) : Type 0 where
  pub table : List Row
  pub term : Term
  pub program : ProgramWords m.bases words table term
  pub least : Least (setting m table) term T Y

-- The words are those of a program whose term has no type: the fault's place is the smallest of a term without a type whose parts all have
-- one, and its number says why.
pub record Untypable (m : Meaning) (words : List ℕ) (f : Fault) : Type 0 where
  pub table : List Row
  pub term : Term
  pub program : ProgramWords m.bases words table term
  pub located : Located (setting m table) (suc (length table)) term f

-- An answer accepts with T and Y exactly when the words are admitted so; a fault is the form reader's, or the words are a program that has
-- no type.
pub record Decides (m : Meaning) (words : List ℕ) (answer : Verdict) : Type 0 where
  pub accepts : (T Y : ℕ) → (answer ≡ accepted T Y) ↔ Admitted m words T Y
  pub refuses : (f : Fault) → answer ≡ Err f → (read_program m.bases words ≡ Err f) ⊎ Untypable m words f
