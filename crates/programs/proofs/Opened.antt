-- The terms that are open: what words leave open, at which depths they stand, and how many terms are still due.
use Rattle.std.proofs.Common.{◌≡◌, ℕ, zero, suc, ◌+◌, ◌-◌, ◌≤◌, Bool, true, false, cond, eqb, leb, List, [], ◌∷◌, ◌++◌, length, sym, refl, ap, ◌∙◌, append_assoc, arith}
use Rattle.std.specs.List.{AllByRecursion}
use Rattle.std.proofs.lemmas.Bool.{ne_eqb, lt-leb, leb-true, leb-false, eqb-true, eqb-false}
use Rattle.std.proofs.ByRecursion.{All-append}
use Rattle.calculus.specs.Terms.{Term}
use Rattle.calculus.specs.Parts.{parts}
use Rattle.encoding.specs.Encoding.{encode, encodes, Fits}
use Rattle.encoding.specs.Depths.{depths_from, all_depths_from}
use Rattle.encoding.specs.Scanning.{arity_of}
use Rattle.encoding.proofs.Parts.{encode_is, by_parts, fits_parts}
use Rattle.encoding.proofs.FirstWord.{first_of}
use Rattle.encoding.proofs.Depths.{depths_is}
use Rattle.programs.specs.Terms.{closed, opened}

-- the terms that are open after some words
abbrev pub after : List ℕ → List ℕ → List ℕ
after ns [] = ns
after ns (w ∷ ws) = after (opened (arity_of w) ns) ws

-- how many are open before each word
abbrev pub levels : List ℕ → List ℕ → List ℕ
levels ns [] = []
levels ns (w ∷ ws) = length ns ∷ levels (opened (arity_of w) ns) ws

-- how many terms are due once the one that comes next is read
abbrev pub due_then : List ℕ → ℕ
due_then [] = 0
due_then (n ∷ ns) = (n - 1) + due_then ns

-- how many terms are due
abbrev pub due : List ℕ → ℕ
due [] = 0
due (n ∷ ns) = suc (due_then (n ∷ ns))

pub due_closed : (ns : List ℕ) → due (closed ns) ≡ due_then ns
due_closed [] = refl
due_closed (n ∷ ns) = by_test (leb n 1) refl (due_closed ns)
  where
    by_test : (b : Bool) → leb n 1 ≡ b → due (closed ns) ≡ due_then ns → due (cond b (closed ns) ((n - 1) ∷ ns)) ≡ due_then (n ∷ ns)
    by_test true e k = let h = leb-true n 1 e in omega arith
    by_test false e k = let h = leb-false n 1 e in omega arith

pub due_opened : (k n : ℕ) (ns : List ℕ) → due (opened k (n ∷ ns)) ≡ due_then (n ∷ ns) + k
due_opened k n ns = by_test (eqb k 0) refl
  where
    by_test : (b : Bool) → eqb k 0 ≡ b → due (cond b (closed (n ∷ ns)) (k ∷ n ∷ ns)) ≡ due_then (n ∷ ns) + k
    by_test true e = let h = eqb-true k 0 e in omega (arith, due_closed (n ∷ ns))
    by_test false e = let h : 1 ≤ k = omega (arith, eqb-false k 0 e) in omega arith

-- there is a level for each word, those of later words going by what the earlier leave open
pub levels_append : (ns ws vs : List ℕ) → levels ns (ws ++ vs) ≡ levels ns ws ++ levels (after ns ws) vs
levels_append ns [] vs = refl
levels_append ns (w ∷ ws) vs = ap (λ l. length ns ∷ l) (levels_append (opened (arity_of w) ns) ws vs)

pub length_levels : (ns ws : List ℕ) → length (levels ns ws) ≡ length ws
length_levels ns [] = refl
length_levels ns (w ∷ ws) = ap suc (length_levels (opened (arity_of w) ns) ws)

-- with one part fewer to come
opened_less : (m : ℕ) (ns : List ℕ) → closed (suc m ∷ ns) ≡ opened m ns
opened_less zero ns = refl
opened_less (suc m) ns =
    let e : leb (suc (suc m)) 1 ≡ false = lt-leb (suc (suc m)) 1 (omega arith) in
    let f : eqb (suc m) 0 ≡ false = ne_eqb (suc m) 0 (λ z. omega arith) in
    let g : suc (suc m) - 1 ≡ suc m = omega arith in rw (e, f, g)

-- of a term the open terms before each word are its depths, and it leaves its owner with one part fewer
record Level (t : Term) (n : ℕ) (ns rest : List ℕ) : Type 0 where
  levels_are : levels (n ∷ ns) (encode t ++ rest) ≡ depths_from (suc (length ns)) t ++ levels (closed (n ∷ ns)) rest
  after_is : after (n ∷ ns) (encode t ++ rest) ≡ after (closed (n ∷ ns)) rest

abbrev Levelled : Term → Type 0
Levelled t = Fits t → (n : ℕ) (ns rest : List ℕ) → Level t n ns rest

record LevelAll (ts : List Term) (ns rest : List ℕ) : Type 0 where
  levels_are :
      levels (opened (length ts) ns) (encodes ts ++ rest) ≡ all_depths_from (suc (length ns)) ts ++ levels (closed ns) rest
  after_is : after (opened (length ts) ns) (encodes ts ++ rest) ≡ after (closed ns) rest

levelled_all : (ts : List Term) → AllByRecursion Levelled ts → AllByRecursion Fits ts → (ns rest : List ℕ) → LevelAll ts ns rest
levelled_all [] a f ns rest = record { levels_are = refl; after_is = refl }
levelled_all (t ∷ ts) a f ns rest =
    let m = length ts in
    let o : opened (suc m) ns ≡ suc m ∷ ns = rw (ne_eqb (suc m) 0 (λ z. omega arith)) in
    let h = a.0 f.0 (suc m) ns (encodes ts ++ rest) in
    let k = levelled_all ts a.1 f.1 ns rest in
    let l = opened_less m ns in
    let x = append_assoc (encode t) (encodes ts) rest in
    let d = depths_from (suc (length ns)) t in
    record {
      levels_are =
          ap (λ l. levels l ((encode t ++ encodes ts) ++ rest)) o ∙ ap (levels (suc m ∷ ns)) x ∙ h.levels_are
          ∙ ap (λ q. d ++ levels q (encodes ts ++ rest)) l ∙ ap (λ q. d ++ q) k.levels_are
          ∙ sym (append_assoc d (all_depths_from (suc (length ns)) ts) (levels (closed ns) rest));
      after_is =
          ap (λ l. after l ((encode t ++ encodes ts) ++ rest)) o ∙ ap (after (suc m ∷ ns)) x ∙ h.after_is
          ∙ ap (λ q. after q (encodes ts ++ rest)) l ∙ k.after_is;
    }

levelled_step : (t : Term) → AllByRecursion Levelled (parts t) → Levelled t
levelled_step t a f n ns rest =
    let b = fits_parts t f in
    let h = first_of t b.0 in
    let k = levelled_all (parts t) a b.1 (n ∷ ns) rest in
    let e = ap (λ l. l ++ rest) (encode_is t) in
    let behind = encodes (parts t) ++ rest in
    let o = ap (λ m. opened m (n ∷ ns)) h.counts in
    record {
      levels_are =
          rw (depths_is (suc (length ns)) t)
          (ap (levels (n ∷ ns)) e ∙ ap (λ l. suc (length ns) ∷ levels l behind) o ∙ ap (λ l. suc (length ns) ∷ l) k.levels_are);
      after_is = ap (after (n ∷ ns)) e ∙ ap (λ l. after l behind) o ∙ k.after_is;
    }

pub levels_encode :
    (t : Term) → Fits t → (n : ℕ) (ns rest : List ℕ) →
    levels (n ∷ ns) (encode t ++ rest) ≡ depths_from (suc (length ns)) t ++ levels (closed (n ∷ ns)) rest
levels_encode t f n ns rest = (by_parts Levelled levelled_step t f n ns rest).levels_are

pub after_encode :
    (t : Term) → Fits t → (n : ℕ) (ns rest : List ℕ) → after (n ∷ ns) (encode t ++ rest) ≡ after (closed (n ∷ ns)) rest
after_encode t f n ns rest = (by_parts Levelled levelled_step t f n ns rest).after_is

-- no word of a term is less deep than its first
Below : Term → Type 0
Below t = (d : ℕ) → 1 ≤ d → AllByRecursion (λ e. 1 ≤ e) (depths_from d t)

below_all : (ts : List Term) → AllByRecursion Below ts → (d : ℕ) → 1 ≤ d → AllByRecursion (λ e. 1 ≤ e) (all_depths_from d ts)
unfolding Below
below_all [] a d h = tt
below_all (t ∷ ts) a d h =
    All-append (λ e. 1 ≤ e) (depths_from d t) (all_depths_from d ts) (a.0 d h) (below_all ts a.1 d h)

below_step : (t : Term) → AllByRecursion Below (parts t) → Below t
unfolding Below
below_step t a d h = rw (depths_is d t) (h, below_all (parts t) a (suc d) (omega arith))

pub depths_positive : (t : Term) → AllByRecursion (λ e. 1 ≤ e) (depths_from 1 t)
unfolding Below
depths_positive t = by_parts Below below_step t 1 (omega arith)
