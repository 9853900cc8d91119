-- Histories of a program, what lasts in them, and what holds of every configuration in one.
use Rattle.std.specs.Prelude.{◌≡◌, ℕ, ◌<◌, ◌≤◌, [], ◌∷◌, ◌++◌, length, Some}
use Rattle.quantities.specs.Meaning.{Meaning}
use Rattle.calculus.specs.Lists.{at, Prefix}
use Rattle.calculus.specs.Terms.{Term, suspension}
use Rattle.calculus.specs.Rows.{Setting}
use Rattle.calculus.specs.Configurations.{Binding, row_of, Bindings, rows, Configured}
use Rattle.calculus.specs.Steps.{Step, Origin, Growth}
use Rattle.calculus.specs.Shape.{Shaped}
use Rattle.calculus.specs.Resumptions.{ResumptionsOnPath}
use Rattle.calculus.specs.WellTyped.{WellTyped}
use Rattle.calculus.specs.Outcomes.{Outcome}

-- Later Q t μ t' μ': from t with μ, any number of steps and takes, or none, come to t' with μ'.
-- A take makes the suspended term of a suspension at the root the whole term.
pub data Later (Q : Meaning) (t : Term) (μ : Bindings) : Term → Bindings → Type 0 where
  at_once : Later Q t μ t μ
  then_step : {u u' : Term} {ν ν' : Bindings} → Later Q t μ u ν → Step Q u ν u' ν' → Later Q t μ u' ν'
  then_take : {u v : Term} {ν : Bindings} → Later Q t μ (suspension u v) ν → Later Q t μ u ν

-- Every configuration that comes of the program p: it is opened with no binding, and then makes any number of steps and of takes.
abbrev pub History : Meaning → Term → Term → Bindings → Type 0
History Q p t μ = Later Q p [] t μ

-- Between t with μ and t' with μ' a step added the binding with label l: the step's new row is the label's, it is that of the start or of
-- the copied binding, and the label still has it at t' with μ'.
pub record Added (Q : Meaning) (t : Term) (μ : Bindings) (t' : Term) (μ' : Bindings) (l : ℕ) : Type 0 where
  pub term_before : Term
  pub bindings_before : Bindings
  pub term_after : Term
  pub bindings_after : Bindings
  pub reached : Later Q t μ term_before bindings_before
  pub step : Step Q term_before bindings_before term_after bindings_after
  pub goes_on : Later Q term_after bindings_after t' μ'
  pub row : ℕ
  pub origin : Origin term_before bindings_before row
  pub label_is : length bindings_before ≡ l
  pub row_added : rows bindings_after ≡ rows bindings_before ++ row ∷ []
  pub row_stays : at (rows μ') l ≡ Some row

-- What lasts from t with μ on to t' with μ'.
pub record Lasts (Q : Meaning) (t : Term) (μ : Bindings) (t' : Term) (μ' : Bindings) : Type 0 where
  -- rows are only added, at the end
  pub rows_grow : Prefix (rows μ) (rows μ')
  -- a binding once made is there under its label, with its row
  pub binding_stays : (l : ℕ) (β : Binding) → at μ l ≡ Some β → (γ : Binding) × (at μ' l ≡ Some γ) × (row_of γ ≡ row_of β)
  -- every other binding was added by a start or a snapshot in between
  pub others_added : (l : ℕ) → length μ ≤ l → l < length μ' → Added Q t μ t' μ' l

-- What holds of a configuration in every history of a program of type T and yield type Y.
pub record Safe (S : Setting) (t : Term) (μ : Bindings) (T Y : ℕ) : Type 0 where
  pub configured : Configured t μ
  pub well_typed : WellTyped S t μ T Y
  pub shaped : Shaped t μ
  pub resumptions : ResumptionsOnPath t μ
  pub outcome : Outcome S t μ Y
  pub growth : (t' : Term) (μ' : Bindings) → Step S.set t μ t' μ' → Growth t μ μ'
