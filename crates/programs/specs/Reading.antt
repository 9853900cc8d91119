-- Reading a program's words: its rows and its term, or the first fault.
use Rattle.std.specs.Prelude.{ℕ, suc, ◌+◌, Bool, cond, ◌&&◌, List, [], ◌∷◌, length, take, drop, Some, None, Ok, Err, Option, Result, ◌==◌, nat_le}
use Rattle.faults.specs.declared.Fault.{Fault}
use Rattle.faults.specs.declared.numbers.FaultNumber.TheVariants.{Head}
use Rattle.faults.specs.Faults.{fault_of}
use Rattle.layout.specs.declared.Word.{Word}
use Rattle.layout.specs.declared.Word.TheVariants as W
use Rattle.layout.specs.Layout.{read_word}
use Rattle.programs.specs.Rows.{rows_fault}
use Rattle.programs.specs.Terms.{term_fault}

-- what a program head states: how many rows and how many term words there are
pub record Stated : Type 0 where
  pub rows : ℕ
  pub term_words : ℕ

abbrev pub as_head : Word → Option Stated
as_head W.Unit = None
as_head (W.Variable n) = None
as_head (W.Abstraction n r) = None
as_head (W.Coroutine n r) = None
as_head W.Application = None
as_head W.Yield = None
as_head (W.Start r) = None
as_head W.Resume = None
as_head W.Snapshot = None
as_head W.Fix = None
as_head (W.Atom b p) = None
as_head (W.Operation n) = None
as_head (W.Instance l r) = None
as_head (W.Resumption l) = None
as_head W.Suspension = None
as_head (W.Binding b r) = None
as_head W.UnitType = None
as_head W.BottomType = None
as_head (W.BaseType b) = None
as_head (W.FunctionType a b) = None
as_head (W.CoroutineType a y b) = None
as_head (W.InstanceType y b) = None
as_head (W.ProgramHead r t) = Some (record { rows = r; term_words = t })
as_head (W.ImageHead u b) = None

abbrev pub read_head : Option Word → Option Stated
read_head None = None
read_head (Some x) = as_head x

-- K + 2 to 512 rows, 1 to 4,096 term words, and as many words after the head
abbrev pub in_range : ℕ → Stated → ℕ → Bool
in_range K s n =
    nat_le (K + 2) s.rows && (nat_le s.rows 512 && (nat_le 1 s.term_words && (nat_le s.term_words 4096 && n == s.rows + s.term_words)))

-- the parts of a program
pub record Split : Type 0 where
  pub rows : List ℕ
  pub term : List ℕ

-- head and counts: the words after the head in rows and term, or a fault at 0
abbrev pub split_by : ℕ → Option Stated → List ℕ → Result Split Fault
split_by K None ws = Err (fault_of Head 0)
split_by K (Some s) ws =
    cond (in_range K s (length ws)) (Ok (record { rows = take s.rows ws; term = drop s.rows ws })) (Err (fault_of Head 0))

abbrev pub split : ℕ → List ℕ → Result Split Fault
split K [] = Err (fault_of Head 0)
split K (w ∷ ws) = split_by K (read_head (read_word w)) ws

-- the parts, unless there is a fault
abbrev pub unless : Option Fault → Result Split Fault → Result Split Fault
unless None r = r
unless (Some f) r = Err f

-- first the rows, then the term, whose first word comes after the head and the rows
abbrev pub checked : ℕ → Result Split Fault → Result Split Fault
checked K (Err f) = Err f
checked K (Ok s) =
    unless (rows_fault K 0 [] s.rows) (unless (term_fault s.rows (suc (length s.rows)) (1 ∷ []) s.term) (Ok s))

-- what is read of a program's words, over a set with K bases
abbrev pub read_program : ℕ → List ℕ → Result Split Fault
read_program K ws = checked K (split K ws)
