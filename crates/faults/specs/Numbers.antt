-- The numbers and the layers of faults.
use Rattle.std.specs.Prelude.{ℕ, cond, ◌&&◌, nat_le}
use Rattle.faults.specs.declared.numbers.Layer.{Layer}
use Rattle.faults.specs.declared.numbers.Layer.TheVariants.{Form, Check, Engine}
use Rattle.faults.specs.declared.numbers.FaultNumber.{FaultNumber}
use Rattle.faults.specs.declared.numbers.FaultNumber.TheVariants.{
  WorkShort,
  ImageLength,
  SpareLength,
  Head,
  Row,
  RowTwice,
  TermWord,
  TermEnd,
  Depth,
  Scope,
  Quantity,
  Types,
  YieldType,
  Labels,
  ImageFull,
  NotImage,
  OtherState,
  NoRule,
}

abbrev pub number_of : FaultNumber → ℕ
number_of WorkShort = 1
number_of ImageLength = 2
number_of SpareLength = 3
number_of Head = 4
number_of Row = 5
number_of RowTwice = 6
number_of TermWord = 7
number_of TermEnd = 8
number_of Depth = 9
number_of Scope = 10
number_of Quantity = 11
number_of Types = 12
number_of YieldType = 13
number_of Labels = 14
number_of ImageFull = 15
number_of NotImage = 16
number_of OtherState = 17
number_of NoRule = 18

-- the layer by the number: the form reader answers 4 to 9, the check 10 to 13, and the engine the rest
abbrev pub layer_at : ℕ → Layer
layer_at n = cond (nat_le 4 n && nat_le n 9) Form (cond (nat_le 10 n && nat_le n 13) Check Engine)

abbrev pub layer_of : FaultNumber → Layer
layer_of n = layer_at (number_of n)
