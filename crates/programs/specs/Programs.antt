-- Programs: which words are those of a table and a term that keep the rules.
use Rattle.std.specs.Prelude.{◌≡◌, ℕ, ◌+◌, ◌≤◌, List, ◌∷◌, ◌++◌, length, Some}
use Rattle.std.specs.List.{AllByRecursion}
use Rattle.calculus.specs.Lists.{at}
use Rattle.calculus.specs.Terms.{Term, unit, variable, abstraction, coroutine, application, yield, start, resume, snapshot, fix, atom, operation, instance, resumption, suspension}
use Rattle.calculus.specs.Rows.{Row, function_type, coroutine_type, instance_type, TableFormed}
use Rattle.calculus.specs.Parts.{size}
use Rattle.layout.specs.declared.Word.TheVariants as W
use Rattle.layout.specs.Layout.{word_of}
use Rattle.encoding.specs.Encoding.{encode, Fits}
use Rattle.encoding.specs.Depths.{depth}
use Rattle.programs.specs.Tables.{table_words, RowFits}

-- what the row of a binder or of a start has to be
abbrev pub IsFunction : List Row → ℕ → Type 0
IsFunction table r = (A : ℕ) × (B : ℕ) × (at table r ≡ Some (function_type A B))

abbrev pub IsCoroutine : List Row → ℕ → Type 0
IsCoroutine table r = (A : ℕ) × (Y : ℕ) × (B : ℕ) × (at table r ≡ Some (coroutine_type A Y B))

abbrev pub IsInstance : List Row → ℕ → Type 0
IsInstance table r = (Y : ℕ) × (B : ℕ) × (at table r ≡ Some (instance_type Y B))

-- The rules of a program term: it has no instance, resumption or suspension, and the row of an abstraction, a coroutine or a start is a
-- function, coroutine or instance type of the table.
abbrev pub Allowed : List Row → Term → Type 0
Allowed table unit = Unit {0}
Allowed table (variable n) = Unit {0}
Allowed table (abstraction x r b) = IsFunction table r × Allowed table b
Allowed table (coroutine x r b) = IsCoroutine table r × Allowed table b
Allowed table (application f a) = Allowed table f × Allowed table a
Allowed table (yield t) = Allowed table t
Allowed table (start i f a) = IsInstance table i × Allowed table f × Allowed table a
Allowed table (resume a b c d) = Allowed table a × Allowed table b × Allowed table c × Allowed table d
Allowed table (snapshot t) = Allowed table t
Allowed table (fix t) = Allowed table t
Allowed table (atom k p) = Unit {0}
Allowed table (operation o a b) = Allowed table a × Allowed table b
Allowed table (instance l r) = ⊥
Allowed table (resumption l a b c d) = ⊥
Allowed table (suspension t v) = ⊥

-- The words are a head that states how many rows and term words there are, in range, and then as many words.
pub record Headed (K : ℕ) (words rows term : List ℕ) : Type 0 where
  pub enough_rows : K + 2 ≤ length rows
  pub few_rows : length rows ≤ 512
  pub some_words : 1 ≤ length term
  pub few_words : length term ≤ 4096
  pub words_are : words ≡ word_of (W.ProgramHead (length rows) (length term)) ∷ (rows ++ term)

-- The words are those of this table and this term, over a set with K bases, and both keep the rules of programs.
pub record ProgramWords (K : ℕ) (words : List ℕ) (table : List Row) (t : Term) : Type 0 where
  -- there are K + 2 to 512 rows, which keep the rules of a table, and each fits its word
  pub enough_rows : K + 2 ≤ length table
  pub few_rows : length table ≤ 512
  pub table_formed : TableFormed K table
  pub rows_fit : AllByRecursion RowFits table
  -- the term has at most 4,096 words and depth 256 at most, keeps the rules of program terms, and fits its words
  pub few_words : size t ≤ 4096
  pub shallow : depth t ≤ 256
  pub allowed : Allowed table t
  pub term_fits : Fits t
  -- first the head, then the rows, then the term
  pub words_are : words ≡ word_of (W.ProgramHead (length table) (size t)) ∷ (table_words table ++ encode t)
