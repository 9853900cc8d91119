-- Outcomes: what a well-typed configuration can be.
use Rattle.std.specs.Prelude.{◌≡◌, ℕ, ◌⊎◌, [], Some}
use Rattle.quantities.specs.Meaning.{Meaning}
use Rattle.calculus.specs.Lists.{at}
use Rattle.calculus.specs.Terms.{Term, resumption, suspension, Value}
use Rattle.calculus.specs.Occurrences.{term_at}
use Rattle.calculus.specs.Rows.{bottom_row, Setting}
use Rattle.calculus.specs.Typing.{Typed}
use Rattle.calculus.specs.Configurations.{ready, Bindings, rows}
use Rattle.calculus.specs.Places.{path}
use Rattle.calculus.specs.Steps.{Step, Only}

-- the term is a suspension whose pending value has the yield type Y, and Y is not ⊥
pub record Offering (S : Setting) (t : Term) (μ : Bindings) (Y : ℕ) : Type 0 where
  pub suspended : Term
  pub pending : Term
  pub term_is : t ≡ suspension suspended pending
  pub pending_value : Value pending
  pub pending_typed : Typed S (rows μ) [] pending Y bottom_row
  pub not_bottom : Y ≡ bottom_row → ⊥

-- the configuration has exactly one successor
pub record Going (Q : Meaning) (t : Term) (μ : Bindings) : Type 0 where
  pub next_term : Term
  pub next_bindings : Bindings
  pub step : Step Q t μ next_term next_bindings
  pub only : Only Q t μ next_term next_bindings

-- the path ends at a resumption of a value or of a suspension, and its binding is ready
pub record Stuck (t : Term) (μ : Bindings) : Type 0 where
  pub label : ℕ
  pub body : Term
  pub of_result : Term
  pub of_yield : Term
  pub of_neither : Term
  pub last_is : term_at t (path t) ≡ Some (resumption label body of_result of_yield of_neither)
  pub body_is : Value body ⊎ ((u : Term) × (v : Term) × (body ≡ suspension u v))
  pub row : ℕ
  pub ready_body : Term
  pub binding_ready : at μ label ≡ Some (ready row ready_body)

-- one of the three holds, and no two of them do
pub record ExactlyOne (A B C : Type 0) : Type 0 where
  pub one_of : A ⊎ (B ⊎ C)
  pub not_first_second : A → B → ⊥
  pub not_first_third : A → C → ⊥
  pub not_second_third : B → C → ⊥

-- one of the four holds, and no two of them do
pub record ExactlyOneOfFour (A B C D : Type 0) : Type 0 where
  pub one_of : A ⊎ (B ⊎ (C ⊎ D))
  pub not_first_second : A → B → ⊥
  pub not_first_third : A → C → ⊥
  pub not_first_fourth : A → D → ⊥
  pub not_second_third : B → C → ⊥
  pub not_second_fourth : B → D → ⊥
  pub not_third_fourth : C → D → ⊥

-- a value, or a suspension that offers a value of the yield type, or exactly one successor
abbrev pub Outcome : Setting → Term → Bindings → ℕ → Type 0
Outcome S t μ Y = ExactlyOne (Value t) (Offering S t μ Y) (Going S.set t μ)

-- one of these, or stuck
abbrev pub OutcomeOrStuck : Setting → Term → Bindings → ℕ → Type 0
OutcomeOrStuck S t μ Y = ExactlyOneOfFour (Value t) (Offering S t μ Y) (Going S.set t μ) (Stuck t μ)
