-- What a row of a type table is, by its word.
use Rattle.std.specs.Prelude.{ℕ, ◌/◌, ◌%◌, ◌^◌, cond, List, length, Some, None, Option, nat_lt, slice_index}
use Rattle.words.specs.declared.kinds.Kind.{Kind}
use Rattle.words.specs.declared.kinds.Kind.TheVariants as Kinds
use Rattle.words.specs.Kinds.{kind_at}
use Rattle.rules.specs.declared.model.Shape.{Shape}
use Rattle.rules.specs.declared.model.Shape.TheVariants.{UnitRow, BottomRow, BaseRow, FunctionRow, CoroutineRow, InstanceRow, NoRow}

-- a word of a kind
abbrev pub shape_of_kind : Kind → ℕ → Shape
shape_of_kind Kinds.Unit w = NoRow
shape_of_kind Kinds.Variable w = NoRow
shape_of_kind Kinds.Abstraction w = NoRow
shape_of_kind Kinds.Coroutine w = NoRow
shape_of_kind Kinds.Application w = NoRow
shape_of_kind Kinds.Yield w = NoRow
shape_of_kind Kinds.Start w = NoRow
shape_of_kind Kinds.Resume w = NoRow
shape_of_kind Kinds.Snapshot w = NoRow
shape_of_kind Kinds.Fix w = NoRow
shape_of_kind Kinds.Atom w = NoRow
shape_of_kind Kinds.Operation w = NoRow
shape_of_kind Kinds.Instance w = NoRow
shape_of_kind Kinds.Resumption w = NoRow
shape_of_kind Kinds.Suspension w = NoRow
shape_of_kind Kinds.Binding w = NoRow
shape_of_kind Kinds.UnitType w = UnitRow
shape_of_kind Kinds.BottomType w = BottomRow
shape_of_kind Kinds.BaseType w = BaseRow (w % 2 ^ 3)
shape_of_kind Kinds.FunctionType w = FunctionRow (w % 2 ^ 9) (w / 2 ^ 9 % 2 ^ 9)
shape_of_kind Kinds.CoroutineType w = CoroutineRow (w % 2 ^ 9) (w / 2 ^ 9 % 2 ^ 9) (w / 2 ^ 18 % 2 ^ 9)
shape_of_kind Kinds.InstanceType w = InstanceRow (w % 2 ^ 9) (w / 2 ^ 9 % 2 ^ 9)
shape_of_kind Kinds.ProgramHead w = NoRow
shape_of_kind Kinds.ImageHead w = NoRow

abbrev pub shape_if : Option Kind → ℕ → Shape
shape_if None w = NoRow
shape_if (Some k) w = shape_of_kind k w

-- a word of the table
abbrev pub shape_of : ℕ → Shape
shape_of w = shape_if (kind_at (w / 2 ^ 27)) w

-- what stands at a row, in a table of these words
abbrev pub shape_at : List ℕ → ℕ → Shape
shape_at rows r = cond (nat_lt r (length rows)) (shape_of (slice_index rows r)) NoRow

-- by argument and result, if the row is a function type
abbrev pub on_function : {A : Type 0} → Shape → A → (ℕ → ℕ → A) → A
on_function UnitRow d f = d
on_function BottomRow d f = d
on_function (BaseRow k) d f = d
on_function (FunctionRow a b) d f = f a b
on_function (CoroutineRow a w b) d f = d
on_function (InstanceRow w b) d f = d
on_function NoRow d f = d

-- by argument, yield type and result, if the row is a coroutine type
abbrev pub on_coroutine : {A : Type 0} → Shape → A → (ℕ → ℕ → ℕ → A) → A
on_coroutine UnitRow d f = d
on_coroutine BottomRow d f = d
on_coroutine (BaseRow k) d f = d
on_coroutine (FunctionRow a b) d f = d
on_coroutine (CoroutineRow a w b) d f = f a w b
on_coroutine (InstanceRow w b) d f = d
on_coroutine NoRow d f = d

-- by yield type and result, if the row is an instance type
abbrev pub on_instance : {A : Type 0} → Shape → A → (ℕ → ℕ → A) → A
on_instance UnitRow d f = d
on_instance BottomRow d f = d
on_instance (BaseRow k) d f = d
on_instance (FunctionRow a b) d f = d
on_instance (CoroutineRow a w b) d f = d
on_instance (InstanceRow w b) d f = f w b
on_instance NoRow d f = d

-- the argument row of a binder's row; Unit's where the row is not that of a binder
abbrev pub argument_of : Shape → ℕ
argument_of s = on_function s (on_coroutine s 0 (λ a w b. a)) (λ a b. a)
