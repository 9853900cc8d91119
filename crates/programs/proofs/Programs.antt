-- Words are accepted exactly when they are those of a program, of one only, and what is refused is refused for its reason.
use Rattle.std.proofs.Common.{◌≡◌, ℕ, suc, ◌+◌, ◌≤◌, true, ◌⊎◌, List, [], ◌∷◌, ◌++◌, length, Some, None, Ok, Err, Option, Result, sym, refl, ap, ◌∙◌, subst, inl, inr, append-nil, arith}
use Rattle.std.specs.List.{AllByRecursion}
use Rattle.faults.specs.declared.Fault.{Fault}
use Rattle.faults.specs.declared.numbers.FaultNumber.{FaultNumber}
use Rattle.faults.specs.Faults.{fault_of}
use Rattle.calculus.specs.Terms.{Term}
use Rattle.calculus.specs.Rows.{Row}
use Rattle.calculus.specs.Parts.{size}
use Rattle.layout.specs.declared.Word.TheVariants as W
use Rattle.layout.specs.Layout.{word_of, read_word}
use Rattle.encoding.specs.Encoding.{encode}
use Rattle.encoding.specs.Depths.{depths, greatest}
use Rattle.encoding.proofs.Parts.{size_is, length_encode}
use Rattle.encoding.proofs.Depths.{depths_reach}
use Rattle.encoding.proofs.Reading.{unique}
use Rattle.programs.specs.Tables.{row_word, table_words, RowFits}
use Rattle.programs.specs.Programs.{Headed, ProgramWords}
use Rattle.programs.specs.Rows.{rows_fault}
use Rattle.programs.specs.Terms.{word_rule, term_fault}
use Rattle.programs.specs.Reading.{Split, split, unless, checked, read_program}
use Rattle.programs.specs.Laws.{Accepted, OneProgram, Refused, Whole, RowRefused, TermRefused}
use Rattle.programs.proofs.Stopping.{whole_none, none_whole, some_refused}
use Rattle.programs.proofs.WordRules.{allowed_keeps, keeps_allowed}
use Rattle.programs.proofs.RowsRead.{Good, Outcome, rows_outcome}
use Rattle.programs.proofs.RowRules.{row_once}
use Rattle.programs.proofs.TablesRead.{TableOf, length_table_words, formed_good, table_of, good_none}
use Rattle.programs.proofs.Heads.{split_headed, head_reads, headed_split}

-- none of some numbers is over 256 exactly if the greatest is not
all_under : (ns : List ℕ) → greatest ns ≤ 256 → AllByRecursion (λ d. d ≤ 256) ns
all_under [] h = tt
all_under (n ∷ ns) h = (omega arith, all_under ns (omega arith))

under_all : (ns : List ℕ) → AllByRecursion (λ d. d ≤ 256) ns → greatest ns ≤ 256
under_all [] a = omega arith
under_all (n ∷ ns) a = omega (arith, a.0, under_all ns a.1)

-- the fault of the term, if there is one
abbrev fault_in : Split → Option Fault
fault_in s = term_fault s.rows (suc (length s.rows)) (1 ∷ []) s.term

-- words are accepted exactly if they are split and neither the rows nor the term have a fault
record Read (K : ℕ) (words : List ℕ) (s : Split) : Type 0 where
  parted : split K words ≡ Ok s
  rows_sound : rows_fault K 0 [] s.rows ≡ None
  term_sound : fault_in s ≡ None

read_of : (K : ℕ) (words : List ℕ) (s : Split) (r : Result Split Fault) → split K words ≡ r → checked K r ≡ Ok s → Read K words s
read_of K words s (Err f) e h = let z : ◌≡◌ {A = ℕ} 0 1 = cc in absurd (omega arith)
read_of K words s (Ok x) e h = by_rows (rows_fault K 0 [] x.rows) (fault_in x) refl refl h
  where
    by_rows :
        (o p : Option Fault) → rows_fault K 0 [] x.rows ≡ o → fault_in x ≡ p → unless o (unless p (Ok x)) ≡ Ok s → Read K words s
    by_rows (Some f) p a b h = let z : ◌≡◌ {A = ℕ} 0 1 = cc in absurd (omega arith)
    by_rows None (Some f) a b h = let z : ◌≡◌ {A = ℕ} 0 1 = cc in absurd (omega arith)
    by_rows None None a b h =
        let i : x ≡ s = cc in
        subst (Read K words) i (record { parted = e; rows_sound = a; term_sound = b })

-- the table and the term that the parts are the words of
abbrev Answer : ℕ → List ℕ → Split → Type 0
Answer K words s =
    (table : List Row) × (t : Term) × ProgramWords K words table t × (s.rows ≡ table_words table) × (s.term ≡ encode t)

program_of : (K : ℕ) (words rows term : List ℕ) → Headed K words rows term → TableOf K rows → Whole rows term →
    Answer K words (record { rows = rows; term = term })
program_of K words rows term h a w =
    let table = a.table in
    let t = w.0 in
    let keeps = subst (λ l. AllByRecursion (λ v. word_rule l v ≡ true) (encode t)) (sym a.words) w.2 in
    let m : length rows ≡ length table = ap length (sym a.words) ∙ length_table_words table in
    let n : length term ≡ size t = ap length (sym w.3) ∙ length_encode t in
    let deep = depths_reach t in
    let under = under_all (depths t) w.4 in (
      table,
      t,
      record {
        enough_rows = omega (arith, h.enough_rows);
        few_rows = omega (arith, h.few_rows);
        table_formed = a.formed;
        rows_fit = a.fits;
        few_words = omega (arith, h.few_words);
        shallow = omega arith;
        allowed = keeps_allowed table a.fits t w.1 keeps;
        term_fits = w.1;
        words_are =
            h.words_are ∙ ap (λ k. word_of (W.ProgramHead k (length term)) ∷ (rows ++ term)) m
            ∙ ap (λ k. word_of (W.ProgramHead (length table) k) ∷ (rows ++ term)) n
            ∙ ap (λ l. word_of (W.ProgramHead (length table) (size t)) ∷ (l ++ term)) (sym a.words)
            ∙ ap (λ l. word_of (W.ProgramHead (length table) (size t)) ∷ (table_words table ++ l)) (sym w.3);
      },
      sym a.words,
      sym w.3,
    )

read_answer : (K : ℕ) (words : List ℕ) (s : Split) → Read K words s → Answer K words s
read_answer K words s r =
    let h = split_headed K words s r.parted in
    let g : Good K s.rows (length s.rows) = subst (Outcome K s.rows) r.rows_sound (rows_outcome K s.rows) in
    program_of K words s.rows s.term h (table_of K s.rows h.enough_rows g)
    (none_whole s.rows s.term (suc (length s.rows)) r.term_sound)

-- the words of a program are read as its parts
module _ (K : ℕ) (words : List ℕ) (table : List Row) (t : Term) (p : ProgramWords K words table t) where
  program_headed : Headed K words (table_words table) (encode t)
  program_headed =
      let m = length_table_words table in
      let n = length_encode t in
      record {
        enough_rows = omega (arith, p.enough_rows);
        few_rows = omega (arith, p.few_rows);
        some_words = omega (arith, size_is t);
        few_words = omega (arith, p.few_words);
        words_are =
            p.words_are ∙ ap (λ k. word_of (W.ProgramHead k (size t)) ∷ (table_words table ++ encode t)) (sym m)
            ∙ ap (λ k. word_of (W.ProgramHead (length (table_words table)) k) ∷ (table_words table ++ encode t)) (sym n);
      }

  program_whole : Whole (table_words table) (encode t)
  program_whole = (
    t,
    p.term_fits,
    allowed_keeps table p.rows_fit t p.term_fits p.allowed,
    refl,
    all_under (depths t) (omega (arith, depths_reach t, p.shallow)),
  )

  program_read : read_program K words ≡ Ok (record { rows = table_words table; term = encode t })
  program_read =
      let x : Split = record { rows = table_words table; term = encode t } in
      let a = good_none K (table_words table) (formed_good K table p.rows_fit p.table_formed) in
      let b = whole_none (table_words table) (encode t) (suc (length (table_words table))) program_whole in
      ap (checked K) (headed_split K words (table_words table) (encode t) program_headed)
      ∙ ap (λ o. unless o (unless (fault_in x) (Ok x))) a ∙ ap (λ o. unless o (Ok x)) b

pub accepted : Accepted
accepted K words s = (
  λ h. read_answer K words s (read_of K words s (split K words) refl h),
  λ a.
      program_read K words a.0 a.1 a.2
      ∙ ap (λ l. Ok (record { rows = l; term = encode a.1 })) (sym a.3) ∙ ap (λ l. Ok (record { rows = s.rows; term = l })) (sym a.4),
)

-- as many rows with the same words are the same rows, and what is behind them is the same
tables_once :
    (xs ys : List Row) (r q : List ℕ) → AllByRecursion RowFits xs → AllByRecursion RowFits ys → length xs ≡ length ys →
    table_words xs ++ r ≡ table_words ys ++ q → (xs ≡ ys) × (r ≡ q)
tables_once [] [] r q f g n e = (refl, e)
tables_once [] (y ∷ ys) r q f g n e = absurd (omega arith)
tables_once (x ∷ xs) [] r q f g n e = absurd (omega arith)
tables_once (x ∷ xs) (y ∷ ys) r q f g n e =
    let a : word_of (row_word x) ≡ word_of (row_word y) = cc in
    let b : table_words xs ++ r ≡ table_words ys ++ q = cc in
    let c = row_once x y f.0 g.0 a in
    let d = tables_once xs ys r q f.1 g.1 (omega arith) b in
    (ap (λ z. z ∷ xs) c ∙ ap (λ l. y ∷ l) d.0, d.1)

pub one_program : OneProgram
one_program K words table table' t t' p p' =
    let e = sym p.words_are ∙ p'.words_are in
    let a : word_of (W.ProgramHead (length table) (size t)) ≡ word_of (W.ProgramHead (length table') (size t')) = cc in
    let b : table_words table ++ encode t ≡ table_words table' ++ encode t' = cc in
    let c : Some (W.ProgramHead (length table) (size t)) ≡ Some (W.ProgramHead (length table') (size t')) =
    sym (head_reads (length table) (size t) p.few_rows p.few_words) ∙ ap read_word a
    ∙ head_reads (length table') (size t') p'.few_rows p'.few_words in
    let n : length table ≡ length table' = cc in
    let d = tables_once table table' (encode t) (encode t') p.rows_fit p'.rows_fit n b in (
      d.0,
      (unique t t' p.term_fits p'.term_fits [] [] (append-nil (encode t) ∙ d.1 ∙ sym (append-nil (encode t')))).0,
    )

-- a refusal is that of the rows, or, where they have none, that of the term
module _ (K : ℕ) (words : List ℕ) (s : Split) (n : FaultNumber) (p : ℕ) where
  abbrev Where : Type 0
  Where =
      ((r : ℕ) × (p ≡ suc r) × RowRefused K s.rows n r) ⊎
      ((k : ℕ) × (p ≡ suc (length s.rows) + k) × TermRefused s.rows s.term n k)

  where_refused :
      (o q : Option Fault) → rows_fault K 0 [] s.rows ≡ o → fault_in s ≡ q → unless o (unless q (Ok s)) ≡ Err (fault_of n p) → Where
  where_refused (Some f) q a b h =
      let i : f ≡ fault_of n p = cc in
      inl (subst (Outcome K s.rows) (a ∙ ap Some i) (rows_outcome K s.rows))
  where_refused None (Some f) a b h =
      let i : f ≡ fault_of n p = cc in
      inr (some_refused s.rows s.term (suc (length s.rows)) n p (b ∙ ap Some i))
  where_refused None None a b h = let z : ◌≡◌ {A = ℕ} 0 1 = cc in absurd (omega arith)

pub refused : Refused
refused K words s n p e h =
    where_refused K words s n p (rows_fault K 0 [] s.rows) (fault_in s) refl refl (ap (checked K) (sym e) ∙ h)
