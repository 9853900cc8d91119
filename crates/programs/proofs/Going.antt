-- Words that go on as a program's term: each keeps its rule, at a depth of 1 to 256. They are the words that begin a term.
use Rattle.std.proofs.Common.{◌≡◌, ℕ, zero, suc, ◌+◌, ◌≤◌, true, cond, List, [], ◌∷◌, ◌++◌, length, take, replicate, Some, None, Option, sym, refl, ap, ◌∙◌, subst, append-nil, arith, length-append}
use Rattle.std.specs.List.{AllByRecursion}
use Rattle.std.proofs.lemmas.List.{take_at, take_all, length-replicate}
use Rattle.std.proofs.ByRecursion.{All-append, All-take}
use Rattle.calculus.specs.Terms.{Term}
use Rattle.calculus.specs.Parts.{size}
use Rattle.layout.specs.declared.Word.{Word}
use Rattle.layout.specs.declared.Word.TheVariants as W
use Rattle.layout.specs.Layout.{read_word}
use Rattle.encoding.specs.Encoding.{encode, Fits}
use Rattle.encoding.specs.Depths.{depths}
use Rattle.encoding.specs.Scanning.{arity_of, is_term_word, of_term, scan}
use Rattle.encoding.proofs.Places.{scan_stands}
use Rattle.programs.specs.Terms.{word_rule, may_be_in_term, read_may_be_in_term, opened}
use Rattle.programs.specs.Laws.{Begins, Whole}
use Rattle.programs.proofs.Impossible.{never}
use Rattle.programs.proofs.Opened.{after, levels, due, due_then, due_opened, levels_append, length_levels, levels_encode, after_encode, depths_positive}

-- each word keeps its rule
abbrev pub Keeps : List ℕ → List ℕ → Type 0
Keeps rows ws = AllByRecursion (λ w. word_rule rows w ≡ true) ws

-- from these open terms on, each word keeps its rule at a depth of 1 to 256
abbrev pub Going : List ℕ → List ℕ → List ℕ → Type 0
Going rows ns [] = Unit {0}
Going rows ns (w ∷ ws) =
    (word_rule rows w ≡ true) × (1 ≤ length ns) × (length ns ≤ 256) × Going rows (opened (arity_of w) ns) ws

-- the last of words that go on keeps its rule at a depth of 1 to 256
pub going_last :
    (rows ns ws : List ℕ) (w : ℕ) → Going rows ns (ws ++ w ∷ []) →
    (word_rule rows w ≡ true) × (1 ≤ length (after ns ws)) × (length (after ns ws) ≤ 256)
going_last rows ns [] w g = (g.0, g.1, g.2)
going_last rows ns (v ∷ ws) w g = going_last rows (opened (arity_of v) ns) ws w g.3

pub going_rules : (rows ns ws : List ℕ) → Going rows ns ws → Keeps rows ws
going_rules rows ns [] g = tt
going_rules rows ns (w ∷ ws) g = (g.0, going_rules rows (opened (arity_of w) ns) ws g.3)

pub going_levels : (rows ns ws : List ℕ) → Going rows ns ws → AllByRecursion (λ d. d ≤ 256) (levels ns ws)
going_levels rows ns [] g = tt
going_levels rows ns (w ∷ ws) g = (g.2, going_levels rows (opened (arity_of w) ns) ws g.3)

going_from :
    (rows ns ws : List ℕ) → Keeps rows ws → AllByRecursion (λ d. 1 ≤ d) (levels ns ws) → AllByRecursion (λ d. d ≤ 256) (levels ns ws) →
    Going rows ns ws
going_from rows ns [] r p d = tt
going_from rows ns (w ∷ ws) r p d = (r.0, p.0, d.0, going_from rows (opened (arity_of w) ns) ws r.1 p.1 d.1)

-- a word that keeps its rule is one of a term
of_word_in_term : (rows : List ℕ) (x : Word) → may_be_in_term rows x ≡ true → of_term (Some x) ≡ true
of_word_in_term rows W.Unit h = refl
of_word_in_term rows (W.Variable n) h = refl
of_word_in_term rows (W.Abstraction n r) h = refl
of_word_in_term rows (W.Coroutine n r) h = refl
of_word_in_term rows W.Application h = refl
of_word_in_term rows W.Yield h = refl
of_word_in_term rows (W.Start r) h = refl
of_word_in_term rows W.Resume h = refl
of_word_in_term rows W.Snapshot h = refl
of_word_in_term rows W.Fix h = refl
of_word_in_term rows (W.Atom b p) h = refl
of_word_in_term rows (W.Operation n) h = refl
of_word_in_term rows (W.Instance l r) h = refl
of_word_in_term rows (W.Resumption l) h = refl
of_word_in_term rows W.Suspension h = refl
of_word_in_term rows (W.Binding b r) h = never h
of_word_in_term rows W.UnitType h = never h
of_word_in_term rows W.BottomType h = never h
of_word_in_term rows (W.BaseType b) h = never h
of_word_in_term rows (W.FunctionType a b) h = never h
of_word_in_term rows (W.CoroutineType a y b) h = never h
of_word_in_term rows (W.InstanceType y b) h = never h
of_word_in_term rows (W.ProgramHead r t) h = never h
of_word_in_term rows (W.ImageHead u b) h = never h

read_of_term : (rows : List ℕ) (o : Option Word) → read_may_be_in_term rows o ≡ true → of_term o ≡ true
read_of_term rows None h = never h
read_of_term rows (Some x) h = of_word_in_term rows x h

pub rule_of_term : (rows : List ℕ) (w : ℕ) → word_rule rows w ≡ true → is_term_word w ≡ true
rule_of_term rows w h = read_of_term rows (read_word w) h

-- the scan passes words that go on, and what is due then is due to it
going_scan :
    (rows ns ws : List ℕ) → Going rows ns ws → (i : ℕ) (rest : List ℕ) →
    scan (due ns) i (ws ++ rest) ≡ scan (due (after ns ws)) (i + length ws) rest
going_scan rows ns [] g i rest = ap (λ j. scan (due ns) j rest) (omega arith)
going_scan rows [] (w ∷ ws) g i rest = absurd (omega (arith, g.1))
going_scan rows (n ∷ ns) (w ∷ ws) g i rest =
    let c : i + 1 + length ws ≡ i + suc (length ws) = omega arith in
    ap (λ b. cond b (scan (due_then (n ∷ ns) + arity_of w) (i + 1) (ws ++ rest)) None) (rule_of_term rows w g.0)
    ∙ ap (λ m. scan m (i + 1) (ws ++ rest)) (sym (due_opened (arity_of w) n ns))
    ∙ going_scan rows (opened (arity_of w) (n ∷ ns)) ws g.3 (i + 1) rest
    ∙ ap (λ j. scan (due (after (opened (arity_of w) (n ∷ ns)) ws)) j rest) c

-- as many unit words as are due end the scan
scan_units : (n i : ℕ) → scan n i (replicate n 0) ≡ Some (i + n)
scan_units zero i = ap Some (omega arith)
scan_units (suc n) i =
    let m : n + 0 ≡ n = omega arith in
    let c : i + 1 + n ≡ i + suc n = omega arith in
    ap (λ k. scan k (i + 1) (replicate n 0)) m ∙ scan_units n (i + 1) ∙ ap Some c

units_keep : (rows : List ℕ) (n : ℕ) → Keeps rows (replicate n 0)
units_keep rows zero = tt
units_keep rows (suc n) = (refl, units_keep rows n)

-- words that are scanned as one term to their end are its words
all_scanned : (ws : List ℕ) → scan 1 0 ws ≡ Some (length ws) → (t : Term) × Fits t × (encode t ≡ ws)
all_scanned ws h =
    let s = scan_stands ws 0 (length ws) h in
    (s.0, s.1.0, sym s.1.1 ∙ take_all (size s.0) ws (omega (arith, s.2)))

depths_are : (t : Term) → Fits t → levels (1 ∷ []) (encode t) ≡ depths t
depths_are t f = ap (levels (1 ∷ [])) (sym (append-nil (encode t))) ∙ levels_encode t f 1 [] [] ∙ append-nil (depths t)

-- the depths of a term's first words are those at which they are read
first_depths :
    (t : Term) (ws rest : List ℕ) → Fits t → encode t ≡ ws ++ rest → take (length ws) (depths t) ≡ levels (1 ∷ []) ws
first_depths t ws rest f e =
    ap (take (length ws)) (sym (depths_are t f) ∙ ap (levels (1 ∷ [])) e ∙ levels_append (1 ∷ []) ws rest)
    ∙ take_at (levels (1 ∷ []) ws) (levels (after (1 ∷ []) ws) rest) (length ws) (length_levels (1 ∷ []) ws)

-- words go on exactly if they begin a term: unit words for what is due make it whole
pub going_begins : (rows ws : List ℕ) → Going rows (1 ∷ []) ws → Begins rows ws
going_begins rows ws g =
    let n = due (after (1 ∷ []) ws) in
    let units = replicate n 0 in
    let c : 0 + length ws + n ≡ length (ws ++ units) = omega (arith, length-append ws units, length-replicate {A = ℕ} n 0) in
    let s = all_scanned (ws ++ units) (going_scan rows (1 ∷ []) ws g 0 units ∙ scan_units n (0 + length ws) ∙ ap Some c) in
    let t = s.0 in
    let d = first_depths t ws units s.1 s.2 in (
      t,
      units,
      s.1,
      subst (Keeps rows) (sym s.2)
          (All-append (λ w. word_rule rows w ≡ true) ws units (going_rules rows (1 ∷ []) ws g) (units_keep rows n)),
      s.2,
      subst (AllByRecursion (λ d. d ≤ 256)) (sym d) (going_levels rows (1 ∷ []) ws g),
    )

front : (P : ℕ → Type 0) (ws rest : List ℕ) → AllByRecursion P (ws ++ rest) → AllByRecursion P ws
front P ws rest a = subst (AllByRecursion P) (take_at ws rest (length ws) refl) (All-take P (length ws) (ws ++ rest) a)

pub begins_going : (rows ws : List ℕ) → Begins rows ws → Going rows (1 ∷ []) ws
begins_going rows ws b =
    let t = b.0 in
    let e = b.4 in
    let d = first_depths t ws b.1 b.2 e in
    going_from rows (1 ∷ []) ws
    (front (λ w. word_rule rows w ≡ true) ws b.1 (subst (Keeps rows) e b.3))
    (subst (AllByRecursion (λ d. 1 ≤ d)) d (All-take (λ d. 1 ≤ d) (length ws) (depths t) (depths_positive t)))
    (subst (AllByRecursion (λ d. d ≤ 256)) d b.5)

-- they are the words of a whole term exactly if they leave none open
pub going_whole : (rows ws : List ℕ) → Going rows (1 ∷ []) ws → after (1 ∷ []) ws ≡ [] → Whole rows ws
going_whole rows ws g n =
    let s =
    all_scanned ws
    (ap (scan 1 0) (sym (append-nil ws)) ∙ going_scan rows (1 ∷ []) ws g 0 [] ∙ ap (λ l. scan (due l) (0 + length ws) []) n
    ∙ ap Some (omega arith))
    in
    let d = sym (ap (levels (1 ∷ [])) s.2) ∙ depths_are s.0 s.1 in (
      s.0,
      s.1,
      subst (Keeps rows) (sym s.2) (going_rules rows (1 ∷ []) ws g),
      s.2,
      subst (AllByRecursion (λ d. d ≤ 256)) d (going_levels rows (1 ∷ []) ws g),
    )

pub whole_going : (rows ws : List ℕ) → Whole rows ws → Going rows (1 ∷ []) ws × (after (1 ∷ []) ws ≡ [])
whole_going rows ws h =
    let t = h.0 in
    let d = sym (depths_are t h.1) ∙ ap (levels (1 ∷ [])) h.3 in (
      going_from rows (1 ∷ []) ws (subst (Keeps rows) h.3 h.2)
          (subst (AllByRecursion (λ d. 1 ≤ d)) d (depths_positive t)) (subst (AllByRecursion (λ d. d ≤ 256)) d h.4),
      ap (after (1 ∷ [])) (sym h.3) ∙ ap (after (1 ∷ [])) (sym (append-nil (encode t))) ∙ after_encode t h.1 1 [] [],
    )
