-- The head of a program: words are split exactly if the head states as many rows and term words as there are, within range.
use Rattle.std.proofs.Common.{◌≡◌, ℕ, ◌+◌, ◌^◌, ◌≤◌, Bool, true, false, cond, ltb, leb, List, [], ◌∷◌, ◌++◌, length, take, drop, Some, None, Ok, Err, Option, Result, refl, ap, ◌∙◌, subst, arith, length-append, length-drop}
use Rattle.faults.specs.declared.Fault.{Fault}
use Rattle.std.proofs.lemmas.List.{take-append-drop, take_at, drop_at, length-take-le}
use Rattle.std.proofs.lemmas.Bool.{and_parts, and_from, leb-true, le-leb, eqb-true, eq-eqb, lt-ltb}
use Rattle.faults.specs.declared.numbers.FaultNumber.TheVariants.{Head}
use Rattle.faults.specs.Faults.{fault_of}
use Rattle.layout.specs.declared.Word.{Word}
use Rattle.layout.specs.declared.Word.TheVariants as W
use Rattle.layout.specs.Layout.{fields_of, fit, word_of, read_word}
use Rattle.layout.proofs.Exact.{read_exact}
use Rattle.programs.specs.Reading.{Stated, as_head, read_head, in_range, Split, split_by, split, checked}
use Rattle.programs.specs.Programs.{Headed}
use Rattle.programs.specs.Laws.{Heads}
use Rattle.programs.proofs.Impossible.{none}

-- a word that is a head states what it does
head_is : (x : Word) (s : Stated) → as_head x ≡ Some s → x ≡ W.ProgramHead s.rows s.term_words
head_is W.Unit s e = none e
head_is (W.Variable n) s e = none e
head_is (W.Abstraction n r) s e = none e
head_is (W.Coroutine n r) s e = none e
head_is W.Application s e = none e
head_is W.Yield s e = none e
head_is (W.Start r) s e = none e
head_is W.Resume s e = none e
head_is W.Snapshot s e = none e
head_is W.Fix s e = none e
head_is (W.Atom b p) s e = none e
head_is (W.Operation n) s e = none e
head_is (W.Instance l r) s e = none e
head_is (W.Resumption l) s e = none e
head_is W.Suspension s e = none e
head_is (W.Binding b r) s e = none e
head_is W.UnitType s e = none e
head_is W.BottomType s e = none e
head_is (W.BaseType b) s e = none e
head_is (W.FunctionType a b) s e = none e
head_is (W.CoroutineType a y b) s e = none e
head_is (W.InstanceType y b) s e = none e
head_is (W.ProgramHead r t) s e =
    let i : record { rows = r; term_words = t } ≡ s = cc in ap (λ x. W.ProgramHead x.rows x.term_words) i
head_is (W.ImageHead u b) s e = none e

-- what a head in range says
record InRange (K : ℕ) (s : Stated) (n : ℕ) : Type 0 where
  enough_rows : K + 2 ≤ s.rows
  few_rows : s.rows ≤ 512
  some_words : 1 ≤ s.term_words
  few_words : s.term_words ≤ 4096
  as_many : n ≡ s.rows + s.term_words

range : (K : ℕ) (s : Stated) (n : ℕ) → in_range K s n ≡ true → InRange K s n
range K s n h =
    let a = and_parts (leb (K + 2) s.rows) _ h in
    let b = and_parts (leb s.rows 512) _ a.1 in
    let c = and_parts (leb 1 s.term_words) _ b.1 in
    let d = and_parts (leb s.term_words 4096) _ c.1 in
    record {
      enough_rows = leb-true (K + 2) s.rows a.0;
      few_rows = leb-true s.rows 512 b.0;
      some_words = leb-true 1 s.term_words c.0;
      few_words = leb-true s.term_words 4096 d.0;
      as_many = eqb-true n (s.rows + s.term_words) d.1;
    }

in_range_so : (K : ℕ) (s : Stated) (n : ℕ) → InRange K s n → in_range K s n ≡ true
in_range_so K s n h =
    and_from (leb (K + 2) s.rows) _ (le-leb (K + 2) s.rows h.enough_rows)
    (and_from (leb s.rows 512) _ (le-leb s.rows 512 h.few_rows)
    (and_from (leb 1 s.term_words) _ (le-leb 1 s.term_words h.some_words)
    (and_from (leb s.term_words 4096) _ (le-leb s.term_words 4096 h.few_words) (eq-eqb n (s.rows + s.term_words) h.as_many))))

headed_by : (K w : ℕ) (ws : List ℕ) (x : Stated) → w ≡ word_of (W.ProgramHead x.rows x.term_words) → InRange K x (length ws) →
    Headed K (w ∷ ws) (take x.rows ws) (drop x.rows ws)
headed_by K w ws x e h =
    let r : length (take x.rows ws) ≡ x.rows = length-take-le x.rows ws (omega arith) in
    let t : length (drop x.rows ws) ≡ x.term_words = omega (arith, length-drop x.rows ws) in
    record {
      enough_rows = omega arith;
      few_rows = omega arith;
      some_words = omega arith;
      few_words = omega arith;
      words_are = rw (r, t, take-append-drop x.rows ws) (ap (λ v. v ∷ ws) e);
    }

split_in : (K w : ℕ) (ws : List ℕ) (s : Split) (x : Stated) (b : Bool) → w ≡ word_of (W.ProgramHead x.rows x.term_words) →
    in_range K x (length ws) ≡ b →
    cond b (Ok (record { rows = take x.rows ws; term = drop x.rows ws })) (Err (fault_of Head 0)) ≡ Ok s →
    Headed K (w ∷ ws) s.rows s.term
split_in K w ws s x false e r h = let z : ◌≡◌ {A = ℕ} 0 1 = cc in absurd (omega arith)
split_in K w ws s x true e r h =
    let i : record { rows = take x.rows ws; term = drop x.rows ws } ≡ s = cc in
    subst (λ y. Headed K (w ∷ ws) y.rows y.term) i (headed_by K w ws x e (range K x (length ws) r))

split_head :
    (K w : ℕ) (ws : List ℕ) (s : Split) (y : Word) (o : Option Stated) → read_word w ≡ Some y → as_head y ≡ o → split_by K o ws ≡ Ok s →
    Headed K (w ∷ ws) s.rows s.term
split_head K w ws s y None e f h = let z : ◌≡◌ {A = ℕ} 0 1 = cc in absurd (omega arith)
split_head K w ws s y (Some x) e f h =
    split_in K w ws s x (in_range K x (length ws)) (((read_exact w y).1 e).is ∙ ap word_of (head_is y x f)) refl h

split_read :
    (K w : ℕ) (ws : List ℕ) (s : Split) (o : Option Word) → read_word w ≡ o → split_by K (read_head o) ws ≡ Ok s →
    Headed K (w ∷ ws) s.rows s.term
split_read K w ws s None e h = let z : ◌≡◌ {A = ℕ} 0 1 = cc in absurd (omega arith)
split_read K w ws s (Some y) e h = split_head K w ws s y (as_head y) e refl h

pub split_headed : (K : ℕ) (words : List ℕ) (s : Split) → split K words ≡ Ok s → Headed K words s.rows s.term
split_headed K [] s h = let z : ◌≡◌ {A = ℕ} 0 1 = cc in absurd (omega arith)
split_headed K (w ∷ ws) s h = split_read K w ws s (read_word w) refl h

-- a head is read from its word
pub head_reads : (r t : ℕ) → r ≤ 512 → t ≤ 4096 → read_word (word_of (W.ProgramHead r t)) ≡ Some (W.ProgramHead r t)
head_reads r t f g =
    let h : fit (fields_of (W.ProgramHead r t)) ≡ true =
    and_from (ltb r (2 ^ 10)) _ (lt-ltb r (2 ^ 10) (omega arith)) (and_from (ltb t (2 ^ 13)) true (lt-ltb t (2 ^ 13) (omega arith)) refl) in
    (read_exact (word_of (W.ProgramHead r t)) (W.ProgramHead r t)).0 (record { fits = h; is = refl })

pub headed_split : (K : ℕ) (words rows term : List ℕ) → Headed K words rows term → split K words ≡ Ok (record { rows = rows; term = term })
headed_split K words rows term h =
    let r = length rows in
    let t = length term in
    let ws = rows ++ term in
    let x : Stated = record { rows = r; term_words = t } in
    let read = head_reads r t h.few_rows h.few_words in
    let i : in_range K x (length ws) ≡ true =
    in_range_so K x (length ws) (record {
      enough_rows = h.enough_rows;
      few_rows = h.few_rows;
      some_words = h.some_words;
      few_words = h.few_words;
      as_many = length-append rows term;
    }) in
    ap (split K) h.words_are ∙ ap (λ o. split_by K (read_head o) ws) read
    ∙ ap (λ b. cond b (Ok (record { rows = take r ws; term = drop r ws })) (Err (fault_of Head 0))) i
    ∙ ap (λ l. Ok (record { rows = l; term = drop r ws })) (take_at rows term r refl)
    ∙ ap (λ l. Ok (record { rows = rows; term = l })) (drop_at rows term r refl)

-- a split that is refused is so by the head, at 0
split_refused_in :
    (f : Fault) (s : Split) (b : Bool) → cond b (Ok s) (Err (fault_of Head 0)) ≡ Err f → f ≡ fault_of Head 0
split_refused_in f s true e = let z : ◌≡◌ {A = ℕ} 0 1 = cc in absurd (omega arith)
split_refused_in f s false e = cc

split_refused_by : (K : ℕ) (o : Option Stated) (ws : List ℕ) (f : Fault) → split_by K o ws ≡ Err f → f ≡ fault_of Head 0
split_refused_by K None ws f e = cc
split_refused_by K (Some x) ws f e =
    split_refused_in f (record { rows = take x.rows ws; term = drop x.rows ws }) (in_range K x (length ws)) e

split_refused : (K : ℕ) (words : List ℕ) (f : Fault) → split K words ≡ Err f → f ≡ fault_of Head 0
split_refused K [] f e = cc
split_refused K (w ∷ ws) f e = split_refused_by K (read_head (read_word w)) ws f e

unheaded :
    (K : ℕ) (words : List ℕ) (r : Result Split Fault) → split K words ≡ r → ((s : Split) → Headed K words s.rows s.term → ⊥) →
    checked K r ≡ Err (fault_of Head 0)
unheaded K words (Ok s) e n = absurd (n s (split_headed K words s e))
unheaded K words (Err f) e n = ap Err (split_refused K words f e)

pub heads : Heads
heads K words =
    ((λ s. (split_headed K words s, λ h. headed_split K words s.rows s.term h)), unheaded K words (split K words) refl)
