-- The layout of a word: its kind in bits 27 to 31 and its fields in the bits below. Bits without a use are zero.
use Rattle.std.specs.Prelude.{◌≡◌, ℕ, ◌+◌, ◌-◌, ◌*◌, ◌/◌, ◌%◌, ◌^◌, Bool, true, false, cond, ◌&&◌, List, [], ◌∷◌, Some, None, Option, ◌==◌, nat_lt}
use Rattle.words.specs.declared.kinds.Kind.{Kind}
use Rattle.words.specs.declared.kinds.Kind.TheVariants as Kinds
use Rattle.layout.specs.declared.Word.{Word}
use Rattle.layout.specs.declared.Word.TheVariants as W
use Rattle.words.specs.Kinds.{number_of, kind_at}

abbrev pub kind_of : Word → Kind
kind_of W.Unit = Kinds.Unit
kind_of (W.Variable name) = Kinds.Variable
kind_of (W.Abstraction name row) = Kinds.Abstraction
kind_of (W.Coroutine name row) = Kinds.Coroutine
kind_of W.Application = Kinds.Application
kind_of W.Yield = Kinds.Yield
kind_of (W.Start row) = Kinds.Start
kind_of W.Resume = Kinds.Resume
kind_of W.Snapshot = Kinds.Snapshot
kind_of W.Fix = Kinds.Fix
kind_of (W.Atom base payload) = Kinds.Atom
kind_of (W.Operation number) = Kinds.Operation
kind_of (W.Instance label row) = Kinds.Instance
kind_of (W.Resumption label) = Kinds.Resumption
kind_of W.Suspension = Kinds.Suspension
kind_of (W.Binding ready row) = Kinds.Binding
kind_of W.UnitType = Kinds.UnitType
kind_of W.BottomType = Kinds.BottomType
kind_of (W.BaseType base) = Kinds.BaseType
kind_of (W.FunctionType argument result) = Kinds.FunctionType
kind_of (W.CoroutineType argument yields result) = Kinds.CoroutineType
kind_of (W.InstanceType yields result) = Kinds.InstanceType
kind_of (W.ProgramHead rows term_words) = Kinds.ProgramHead
kind_of (W.ImageHead used bindings) = Kinds.ImageHead

-- how many terms follow a word as its parts; a binding has its body for a part if it is ready
abbrev pub parts_of : Word → ℕ
parts_of W.Unit = 0
parts_of (W.Variable name) = 0
parts_of (W.Abstraction name row) = 1
parts_of (W.Coroutine name row) = 1
parts_of W.Application = 2
parts_of W.Yield = 1
parts_of (W.Start row) = 2
parts_of W.Resume = 4
parts_of W.Snapshot = 1
parts_of W.Fix = 1
parts_of (W.Atom base payload) = 0
parts_of (W.Operation number) = 2
parts_of (W.Instance label row) = 0
parts_of (W.Resumption label) = 4
parts_of W.Suspension = 2
parts_of (W.Binding ready row) = cond ready 1 0
parts_of W.UnitType = 0
parts_of W.BottomType = 0
parts_of (W.BaseType base) = 0
parts_of (W.FunctionType argument result) = 0
parts_of (W.CoroutineType argument yields result) = 0
parts_of (W.InstanceType yields result) = 0
parts_of (W.ProgramHead rows term_words) = 0
parts_of (W.ImageHead used bindings) = 0

-- A field: a number and the first and the last of the bits that hold it.
pub record Field : Type 0 where
  pub value : ℕ
  pub low : ℕ
  pub high : ℕ

abbrev pub bits : ℕ → ℕ → ℕ → Field
bits value low high = record { value = value; low = low; high = high }

-- the fields of a word
abbrev pub fields_of : Word → List Field
fields_of W.Unit = []
fields_of (W.Variable name) = bits name 0 11 ∷ []
fields_of (W.Abstraction name row) = bits name 0 11 ∷ bits row 12 20 ∷ []
fields_of (W.Coroutine name row) = bits name 0 11 ∷ bits row 12 20 ∷ []
fields_of W.Application = []
fields_of W.Yield = []
fields_of (W.Start row) = bits row 12 20 ∷ []
fields_of W.Resume = []
fields_of W.Snapshot = []
fields_of W.Fix = []
fields_of (W.Atom base payload) = bits payload 0 23 ∷ bits base 24 26 ∷ []
fields_of (W.Operation number) = bits number 0 7 ∷ []
fields_of (W.Instance label row) = bits label 0 11 ∷ bits row 12 20 ∷ []
fields_of (W.Resumption label) = bits label 0 11 ∷ []
fields_of W.Suspension = []
fields_of (W.Binding ready row) = bits (cond ready 1 0) 0 0 ∷ bits row 12 20 ∷ []
fields_of W.UnitType = []
fields_of W.BottomType = []
fields_of (W.BaseType base) = bits base 0 2 ∷ []
fields_of (W.FunctionType argument result) = bits argument 0 8 ∷ bits result 9 17 ∷ []
fields_of (W.CoroutineType argument yields result) = bits argument 0 8 ∷ bits yields 9 17 ∷ bits result 18 26 ∷ []
fields_of (W.InstanceType yields result) = bits yields 0 8 ∷ bits result 9 17 ∷ []
fields_of (W.ProgramHead rows term_words) = bits rows 0 9 ∷ bits term_words 10 22 ∷ []
fields_of (W.ImageHead used bindings) = bits used 0 14 ∷ bits bindings 15 26 ∷ []

-- whether each field's number fits its bits
abbrev pub fit : List Field → Bool
fit [] = true
fit (f ∷ fs) = nat_lt f.value (2 ^ (f.high + 1 - f.low)) && fit fs

-- the fields' numbers, each at its bits
abbrev pub placed : List Field → ℕ
placed [] = 0
placed (f ∷ fs) = f.value * 2 ^ f.low + placed fs

-- the word: its kind in bits 27 to 31, its fields at their bits, and zero elsewhere
abbrev pub word_of : Word → ℕ
word_of x = number_of (kind_of x) * 2 ^ 27 + placed (fields_of x)

-- a number stands for a word: each field fits its bits, and the number is the word's
pub record Reads (w : ℕ) (x : Word) : Type 0 where
  pub fits : fit (fields_of x) ≡ true
  pub is : w ≡ word_of x

-- the number of a word, if its fields fit
abbrev pub built : Word → Option ℕ
built x = cond (fit (fields_of x)) (Some (word_of x)) None

-- the word of a kind with the fields that a number has at their bits, whatever stands in the other bits
abbrev pub word_at : Kind → ℕ → Word
word_at Kinds.Unit w = W.Unit
word_at Kinds.Variable w = W.Variable (w % 2 ^ 12)
word_at Kinds.Abstraction w = W.Abstraction (w % 2 ^ 12) (w / 2 ^ 12 % 2 ^ 9)
word_at Kinds.Coroutine w = W.Coroutine (w % 2 ^ 12) (w / 2 ^ 12 % 2 ^ 9)
word_at Kinds.Application w = W.Application
word_at Kinds.Yield w = W.Yield
word_at Kinds.Start w = W.Start (w / 2 ^ 12 % 2 ^ 9)
word_at Kinds.Resume w = W.Resume
word_at Kinds.Snapshot w = W.Snapshot
word_at Kinds.Fix w = W.Fix
word_at Kinds.Atom w = W.Atom (w / 2 ^ 24 % 2 ^ 3) (w % 2 ^ 24)
word_at Kinds.Operation w = W.Operation (w % 2 ^ 8)
word_at Kinds.Instance w = W.Instance (w % 2 ^ 12) (w / 2 ^ 12 % 2 ^ 9)
word_at Kinds.Resumption w = W.Resumption (w % 2 ^ 12)
word_at Kinds.Suspension w = W.Suspension
word_at Kinds.Binding w = W.Binding (w % 2 == 1) (w / 2 ^ 12 % 2 ^ 9)
word_at Kinds.UnitType w = W.UnitType
word_at Kinds.BottomType w = W.BottomType
word_at Kinds.BaseType w = W.BaseType (w % 2 ^ 3)
word_at Kinds.FunctionType w = W.FunctionType (w % 2 ^ 9) (w / 2 ^ 9 % 2 ^ 9)
word_at Kinds.CoroutineType w = W.CoroutineType (w % 2 ^ 9) (w / 2 ^ 9 % 2 ^ 9) (w / 2 ^ 18 % 2 ^ 9)
word_at Kinds.InstanceType w = W.InstanceType (w % 2 ^ 9) (w / 2 ^ 9 % 2 ^ 9)
word_at Kinds.ProgramHead w = W.ProgramHead (w % 2 ^ 10) (w / 2 ^ 10 % 2 ^ 13)
word_at Kinds.ImageHead w = W.ImageHead (w % 2 ^ 15) (w / 2 ^ 15 % 2 ^ 12)

-- whether a number was built, and it is this one
abbrev pub same : Option ℕ → ℕ → Bool
same None w = false
same (Some v) w = v == w

abbrev pub read_at : ℕ → Option Kind → Option Word
read_at w None = None
read_at w (Some k) = cond (same (built (word_at k w)) w) (Some (word_at k w)) None

-- the word that a number stands for: of its kind, if no bit without a use is set
abbrev pub read_word : ℕ → Option Word
read_word w = read_at w (kind_at (w / 2 ^ 27))
