-- What is promised of reading a program.
use Rattle.std.specs.Prelude.{◌≡◌, ℕ, suc, ◌+◌, ◌<◌, ◌≤◌, true, false, ◌⊎◌, ◌↔◌, List, ◌++◌, length, take, Ok, Err, ◌≢◌, slice_index}
use Rattle.std.specs.List.{AllByRecursion}
use Rattle.faults.specs.declared.numbers.FaultNumber.{FaultNumber}
use Rattle.faults.specs.declared.numbers.FaultNumber.TheVariants.{Head, Row as RowFault, RowTwice, TermWord, TermEnd, Depth}
use Rattle.faults.specs.Faults.{fault_of}
use Rattle.calculus.specs.Terms.{Term}
use Rattle.calculus.specs.Rows.{Row}
use Rattle.encoding.specs.Encoding.{encode, Fits}
use Rattle.encoding.specs.Depths.{depths}
use Rattle.programs.specs.Tables.{table_words}
use Rattle.programs.specs.Programs.{Headed, ProgramWords}
use Rattle.programs.specs.Rows.{row_rule}
use Rattle.programs.specs.Terms.{word_rule}
use Rattle.programs.specs.Reading.{Split, split, read_program}

-- Words are parted exactly when they have a head in range and as many words as it states; otherwise they are refused by 4 at 0.
abbrev pub Heads : Type 0
Heads =
    (K : ℕ) (words : List ℕ) →
    ((s : Split) → (split K words ≡ Ok s) ↔ Headed K words s.rows s.term) ×
    (((s : Split) → Headed K words s.rows s.term → ⊥) → read_program K words ≡ Err (fault_of Head 0))

-- Words are accepted exactly when they are those of some table and some term that keep the rules; the parts are then their words.
abbrev pub Accepted : Type 0
Accepted =
    (K : ℕ) (words : List ℕ) (s : Split) →
    (read_program K words ≡ Ok s) ↔
    ((table : List Row) × (t : Term) × ProgramWords K words table t × (s.rows ≡ table_words table) × (s.term ≡ encode t))

-- Words are those of one table and one term at most.
abbrev pub OneProgram : Type 0
OneProgram =
    (K : ℕ) (words : List ℕ) (table table' : List Row) (t t' : Term) → ProgramWords K words table t → ProgramWords K words table' t' →
    (table ≡ table') × (t ≡ t')

-- The words begin a term of a program with these rows: they are the first words of some term whose words keep their rules, and none of
-- them is at a depth over 256.
abbrev pub Begins : List ℕ → List ℕ → Type 0
Begins rows ws =
    (t : Term) × (rest : List ℕ) × Fits t × AllByRecursion (λ w. word_rule rows w ≡ true) (encode t) × (encode t ≡ ws ++ rest) ×
    AllByRecursion (λ d. d ≤ 256) (take (length ws) (depths t))

-- the words are those of a whole such term
abbrev pub Whole : List ℕ → List ℕ → Type 0
Whole rows ws =
    (t : Term) × Fits t × AllByRecursion (λ w. word_rule rows w ≡ true) (encode t) × (encode t ≡ ws) × AllByRecursion (λ d. d ≤ 256) (depths t)

-- A refusal among the term words, at place p, which is that of term word k: the words before it begin a term, and with the word at the
-- place they do not. By 8 the words before are a whole term, or there is no word at the place and they are none; by 7 the word breaks its
-- rule; by 9 it keeps its rule.
pub record TermRefused (rows term : List ℕ) (number : FaultNumber) (k : ℕ) : Type 0 where
  pub within : k ≤ length term
  pub before : Begins rows (take k term)
  pub with_it : k < length term → Begins rows (take (suc k) term) → ⊥
  pub reason :
      ((number ≡ TermEnd) × (((k < length term) × Whole rows (take k term)) ⊎ ((k ≡ length term) × (Whole rows term → ⊥)))) ⊎
      (((number ≡ TermWord) × (k < length term) × (Whole rows (take k term) → ⊥) × (word_rule rows (slice_index term k) ≡ false)) ⊎
      ((number ≡ Depth) × (k < length term) × (Whole rows (take k term) → ⊥) × (word_rule rows (slice_index term k) ≡ true)))

-- A refusal among the rows, at row r: the rows before keep their rules and differ from each other; by 5 the row breaks its rule, by 6 it
-- keeps it and equals an earlier one.
pub record RowRefused (K : ℕ) (rows : List ℕ) (number : FaultNumber) (r : ℕ) : Type 0 where
  pub within : r < length rows
  pub before : (q : ℕ) → q < r → row_rule K q (slice_index rows q) ≡ true
  pub unlike : (p q : ℕ) → p < q → q < r → slice_index rows p ≢ slice_index rows q
  pub reason :
      ((number ≡ RowFault) × (row_rule K r (slice_index rows r) ≡ false)) ⊎
      ((number ≡ RowTwice) × (row_rule K r (slice_index rows r) ≡ true) × ((q : ℕ) × (q < r) × (slice_index rows q ≡ slice_index rows r)))

-- Where the head is in order and the words are refused, it is at a row, or, all rows being in order, at a term word.
abbrev pub Refused : Type 0
Refused =
    (K : ℕ) (words : List ℕ) (s : Split) (n : FaultNumber) (p : ℕ) → split K words ≡ Ok s → read_program K words ≡ Err (fault_of n p) →
    ((r : ℕ) × (p ≡ suc r) × RowRefused K s.rows n r) ⊎
    ((k : ℕ) × (p ≡ suc (length s.rows) + k) × TermRefused s.rows s.term n k)
