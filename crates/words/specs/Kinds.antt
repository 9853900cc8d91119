-- The numbers of the kinds.
use Rattle.std.specs.Prelude.{ℕ, List, [], ◌∷◌, Some, None, Option, slice_index_or}
use Rattle.words.specs.declared.kinds.Kind.{Kind}
use Rattle.words.specs.declared.kinds.Kind.TheVariants.{
  Unit as unit,
  Variable,
  Abstraction,
  Coroutine,
  Application,
  Yield,
  Start,
  Resume,
  Snapshot,
  Fix,
  Atom,
  Operation,
  Instance,
  Resumption,
  Suspension,
  Binding,
  UnitType,
  BottomType,
  BaseType,
  FunctionType,
  CoroutineType,
  InstanceType,
  ProgramHead,
  ImageHead,
}

-- the number that stands in bits 27 to 31 of a word of this kind
abbrev pub number_of : Kind → ℕ
number_of unit = 0
number_of Variable = 1
number_of Abstraction = 2
number_of Coroutine = 3
number_of Application = 4
number_of Yield = 5
number_of Start = 6
number_of Resume = 7
number_of Snapshot = 8
number_of Fix = 9
number_of Atom = 10
number_of Operation = 11
number_of Instance = 12
number_of Resumption = 13
number_of Suspension = 14
number_of Binding = 15
number_of UnitType = 16
number_of BottomType = 17
number_of BaseType = 18
number_of FunctionType = 19
number_of CoroutineType = 20
number_of InstanceType = 21
number_of ProgramHead = 22
number_of ImageHead = 23

-- the kinds by their numbers
abbrev pub kinds : List (Option Kind)
kinds =
    Some unit ∷ Some Variable ∷ Some Abstraction ∷ Some Coroutine ∷ Some Application ∷ Some Yield ∷ Some Start ∷ Some Resume
    ∷ Some Snapshot ∷ Some Fix ∷ Some Atom ∷ Some Operation ∷ Some Instance ∷ Some Resumption ∷ Some Suspension ∷ Some Binding
    ∷ Some UnitType ∷ Some BottomType ∷ Some BaseType ∷ Some FunctionType ∷ Some CoroutineType ∷ Some InstanceType
    ∷ Some ProgramHead ∷ Some ImageHead ∷ []

-- the kind with a number; there are none from 24 on
abbrev pub kind_at : ℕ → Option Kind
kind_at n = slice_index_or kinds n None

-- how many terms follow a word of a kind as its parts, as far as the kind says
abbrev pub parts_of : Kind → ℕ
parts_of unit = 0
parts_of Variable = 0
parts_of Abstraction = 1
parts_of Coroutine = 1
parts_of Application = 2
parts_of Yield = 1
parts_of Start = 2
parts_of Resume = 4
parts_of Snapshot = 1
parts_of Fix = 1
parts_of Atom = 0
parts_of Operation = 2
parts_of Instance = 0
parts_of Resumption = 4
parts_of Suspension = 2
parts_of Binding = 0
parts_of UnitType = 0
parts_of BottomType = 0
parts_of BaseType = 0
parts_of FunctionType = 0
parts_of CoroutineType = 0
parts_of InstanceType = 0
parts_of ProgramHead = 0
parts_of ImageHead = 0
