-- Terms, and which of them are values, suspensions and program terms.
use Rattle.std.specs.Prelude.{◌≡◌, ℕ, Bool, true, false}

-- A term of one of the fifteen kinds. Names, rows of the type table, labels of bindings, bases, payloads and operations are numbers.
pub data Term : Type 0 where
  unit : Term
  variable : (name : ℕ) → Term
  abstraction : (name : ℕ) → (row : ℕ) → (body : Term) → Term
  coroutine : (name : ℕ) → (row : ℕ) → (body : Term) → Term
  application : (applied : Term) → (argument : Term) → Term
  yield : (offered : Term) → Term
  start : (row : ℕ) → (started : Term) → (argument : Term) → Term
  -- the instance; then the handlers: of its result, of what it yields, and of unit where it cannot run
  resume : (resumed : Term) → (of_result : Term) → (of_yield : Term) → (of_neither : Term) → Term
  snapshot : (copied : Term) → Term
  fix : (function : Term) → Term
  atom : (base : ℕ) → (payload : ℕ) → Term
  operation : (number : ℕ) → (first : Term) → (second : Term) → Term
  -- only in a running term:
  instance : (label : ℕ) → (row : ℕ) → Term
  -- an instance that executes its body, under the handlers it was resumed with
  resumption : (label : ℕ) → (body : Term) → (of_result : Term) → (of_yield : Term) → (of_neither : Term) → Term
  -- a term that waits while a value is offered
  suspension : (suspended : Term) → (pending : Term) → Term

-- whether a term is a value: unit, abstraction, coroutine, instance or atom
abbrev pub is_value : Term → Bool
is_value unit = true
is_value (variable n) = false
is_value (abstraction x r b) = true
is_value (coroutine x r b) = true
is_value (application f a) = false
is_value (yield t) = false
is_value (start i f a) = false
is_value (resume a b c d) = false
is_value (snapshot t) = false
is_value (fix t) = false
is_value (atom k p) = true
is_value (operation o a b) = false
is_value (instance l r) = true
is_value (resumption l a b c d) = false
is_value (suspension t v) = false

abbrev pub is_suspension : Term → Bool
is_suspension unit = false
is_suspension (variable n) = false
is_suspension (abstraction x r b) = false
is_suspension (coroutine x r b) = false
is_suspension (application f a) = false
is_suspension (yield t) = false
is_suspension (start i f a) = false
is_suspension (resume a b c d) = false
is_suspension (snapshot t) = false
is_suspension (fix t) = false
is_suspension (atom k p) = false
is_suspension (operation o a b) = false
is_suspension (instance l r) = false
is_suspension (resumption l a b c d) = false
is_suspension (suspension t v) = true

abbrev pub Value : Term → Type 0
Value t = is_value t ≡ true

-- a program term: no instance, no resumption, no suspension
abbrev pub Program : Term → Type 0
Program unit = Unit {0}
Program (variable n) = Unit {0}
Program (abstraction x r b) = Program b
Program (coroutine x r b) = Program b
Program (application f a) = Program f × Program a
Program (yield t) = Program t
Program (start i f a) = Program f × Program a
Program (resume a b c d) = Program a × Program b × Program c × Program d
Program (snapshot t) = Program t
Program (fix t) = Program t
Program (atom k p) = Unit {0}
Program (operation o a b) = Program a × Program b
Program (instance l r) = ⊥
Program (resumption l a b c d) = ⊥
Program (suspension t v) = ⊥
