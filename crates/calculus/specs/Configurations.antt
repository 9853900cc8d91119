-- Configurations: a term and its bindings, and the rules that both keep. A pair of them is a configuration in the full sense when it is
-- `Configured`.
use Rattle.std.specs.Prelude.{◌≡◌, ℕ, ◌<◌, List, [], ◌∷◌, length, Some}
use Rattle.calculus.specs.Lists.{at}
use Rattle.calculus.specs.Terms.{Term, unit, variable, abstraction, coroutine, application, yield, start, resume, snapshot, fix, atom, operation, instance, resumption, suspension, Value}

-- A binding has the row of its instance's type. It is ready with a body, or empty: its instance executes or is completed.
pub data Binding : Type 0 where
  empty : (row : ℕ) → Binding
  ready : (row : ℕ) → (body : Term) → Binding

abbrev pub row_of : Binding → ℕ
row_of (empty r) = r
row_of (ready r t) = r

-- the bindings, from label 0 up
abbrev pub Bindings : Type 0
Bindings = List Binding

-- the rows of the bindings
abbrev pub rows : Bindings → List ℕ
rows [] = []
rows (β ∷ μ) = row_of β ∷ rows μ

pub record Configuration : Type 0 where
  pub term : Term
  pub bindings : Bindings

infix 3 ◌∣◌
abbrev pub ◌∣◌ : Term → Bindings → Configuration
t ∣ μ = record { term = t; bindings = μ }

-- Formed n t: every label in t is below n, the last three parts of a resumption and the second of a suspension are values.
abbrev pub Formed : ℕ → Term → Type 0
Formed n unit = Unit {0}
Formed n (variable x) = Unit {0}
Formed n (abstraction x r b) = Formed n b
Formed n (coroutine x r b) = Formed n b
Formed n (application f a) = Formed n f × Formed n a
Formed n (yield t) = Formed n t
Formed n (start i f a) = Formed n f × Formed n a
Formed n (resume a b c d) = Formed n a × Formed n b × Formed n c × Formed n d
Formed n (snapshot t) = Formed n t
Formed n (fix t) = Formed n t
Formed n (atom k p) = Unit {0}
Formed n (operation o a b) = Formed n a × Formed n b
Formed n (instance l r) = l < n
Formed n (resumption l a b c d) =
    (l < n) × (Value b × Value c × Value d) × (Formed n a × Formed n b × Formed n c × Formed n d)
Formed n (suspension t v) = Value v × Formed n t × Formed n v

-- The rules of a configuration, for its term and for every ready body.
pub record Configured (t : Term) (μ : Bindings) : Type 0 where
  pub term_formed : Formed (length μ) t
  pub bodies_formed : (l i : ℕ) (b : Term) → at μ l ≡ Some (ready i b) → Formed (length μ) b
