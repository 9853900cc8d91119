-- When a configuration is well typed.
use Rattle.std.specs.Prelude.{◌≡◌, ℕ, List, [], Some}
use Rattle.calculus.specs.Lists.{at}
use Rattle.calculus.specs.Terms.{Term}
use Rattle.calculus.specs.Rows.{instance_type, Setting, Is}
use Rattle.calculus.specs.Typing.{Typed}
use Rattle.calculus.specs.Configurations.{Binding, empty, ready, row_of, Bindings, rows}

-- a ready body has type B and yield type W
abbrev pub BodyTyped : Setting → List ℕ → Binding → ℕ → ℕ → Type 0
BodyTyped S Σ (empty i) W B = Unit {0}
BodyTyped S Σ (ready i t) W B = Typed S Σ [] t B W

-- A binding has the row of an instance type; a ready body has its result type and its yield type, with no variable in scope.
pub record BindingTyped (S : Setting) (Σ : List ℕ) (β : Binding) : Type 0 where
  pub yields : ℕ
  pub result : ℕ
  pub row_is : Is S (row_of β) (instance_type yields result)
  pub body_typed : BodyTyped S Σ β yields result

-- every binding is well typed, where the bindings have the rows Σ
pub record BindingsTyped (S : Setting) (Σ : List ℕ) (μ : Bindings) : Type 0 where
  pub each : (l : ℕ) (β : Binding) → at μ l ≡ Some β → BindingTyped S Σ β

-- A closed term of type T and yield type Y, with bindings that are well typed.
pub record WellTyped (S : Setting) (t : Term) (μ : Bindings) (T Y : ℕ) : Type 0 where
  pub typed : Typed S (rows μ) [] t T Y
  pub bindings_typed : BindingsTyped S (rows μ) μ
