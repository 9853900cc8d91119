-- What is proved of verdicts.
use Rattle.std.specs.Prelude.{◌≡◌, ℕ, ◌↔◌, List, [], Err}
use Rattle.faults.specs.declared.Fault.{Fault}
use Rattle.rules.specs.declared.model.Variable.{Variable}
use Rattle.rules.specs.Rules.{accepted}
use Rattle.calculus.specs.Terms.{Term, Program}
use Rattle.calculus.specs.Rows.{Setting, WellFormed}
use Rattle.calculus.specs.Typing.{Typed}
use Rattle.calculus.specs.Judgement.{judge}
use Rattle.std.specs.List.{AllByRecursion}
use Rattle.programs.specs.Tables.{table_words, RowFits}
use Rattle.judging.specs.Verdicts.{verdict}
use Rattle.judging.specs.Answers.{scope_of, answer_of, Least}
use Rattle.judging.specs.Places.{Located}

-- The verdict accepts a program term exactly when the judgement answers, with the same type and yield type.
abbrev pub VerdictsAreJudgements : Type 0
VerdictsAreJudgements =
    (S : Setting) → AllByRecursion RowFits S.table → (Γ : List Variable) (i : ℕ) (t : Term) → Program t →
    answer_of (verdict S.set (table_words S.table) Γ i t) ≡ judge S [] (scope_of Γ) t

-- A program is accepted with T and Y exactly when T is its type and Y its least yield type, and refused exactly when it has no type.
abbrev pub VerdictsAreTypings : Type 0
VerdictsAreTypings =
    (S : Setting) → WellFormed S → AllByRecursion RowFits S.table → (i : ℕ) (t : Term) → Program t →
    ((T Y : ℕ) → (verdict S.set (table_words S.table) [] i t ≡ accepted T Y) ↔ Least S t T Y) ×
    (((f : Fault) × (verdict S.set (table_words S.table) [] i t ≡ Err f)) ↔ ((T Y : ℕ) → Typed S [] [] t T Y → ⊥))

-- A refusal's place is the smallest of a term without a type whose parts all have one, and its number says why that term has none.
abbrev pub RefusalsAreLocated : Type 0
RefusalsAreLocated =
    (S : Setting) → WellFormed S → AllByRecursion RowFits S.table → (i : ℕ) (t : Term) → Program t → (f : Fault) →
    verdict S.set (table_words S.table) [] i t ≡ Err f → Located S i t f
