-- What a verdict says of a term, in the words of the calculus.
use Rattle.std.specs.Prelude.{◌≡◌, ℕ, List, [], ◌∷◌, Some, None, Ok, Err, Option}
use Rattle.rules.specs.declared.model.Judged.{Judged}
use Rattle.rules.specs.declared.model.Variable.{Variable}
use Rattle.rules.specs.Rules.{Verdict}
use Rattle.calculus.specs.Terms.{Term}
use Rattle.calculus.specs.Rows.{Setting}
use Rattle.calculus.specs.Typing.{Scope, Reads, Typed}
use Rattle.calculus.specs.Judgement.{Judgement}

-- the variables in scope
abbrev pub scope_of : List Variable → Scope
scope_of [] = []
scope_of (b ∷ Γ) = record { name = b.name; row = b.row } ∷ scope_of Γ

abbrev pub judgement_of : Judged → Judgement
judgement_of j = record { type = j.row; yields = j.yields }

-- the judgement, if a term is accepted
abbrev pub answer_of : Verdict → Option Judgement
answer_of (Ok j) = Some (judgement_of j)
answer_of (Err f) = None

-- T is the type of a program's term, and Y is the least of its yield types: each of them Y may be read as
pub record Least (S : Setting) (t : Term) (T Y : ℕ) : Type 0 where
  pub typed : Typed S [] [] t T Y
  pub least : (U Z : ℕ) → Typed S [] [] t U Z → (T ≡ U) × Reads S Y Z

-- under a scope a term has a type
abbrev pub HasType : Setting → Scope → Term → Type 0
HasType S Γ t = (T : ℕ) × (Y : ℕ) × Typed S [] Γ t T Y
