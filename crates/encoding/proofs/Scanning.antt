-- The scan: one word more of it, and that it goes as far as a term reaches.
use Rattle.std.proofs.Common.{◌≡◌, ℕ, zero, suc, ◌+◌, ◌-◌, ◌/◌, ◌^◌, ◌<◌, ◌≤◌, true, false, List, [], ◌∷◌, ◌++◌, length, get_or, drop, Some, None, refl, ap, ◌∙◌, append_assoc, arith}
use Rattle.std.specs.List.{AllByRecursion}
use Rattle.std.proofs.lemmas.List.{drop_more, drop_all}
use Rattle.calculus.specs.Terms.{Term}
use Rattle.calculus.specs.Parts.{parts, size, sizes}
use Rattle.encoding.specs.Encoding.{encode, encodes, Fits}
use Rattle.encoding.specs.Scanning.{part_counts, arity_of, is_term_word, scan}
use Rattle.encoding.proofs.Parts.{encode_is, size_is, by_parts, fits_parts}
use Rattle.encoding.proofs.FirstWord.{first_of}

get_or_keeps : (P : ℕ → Type 0) (xs : List ℕ) (k : ℕ) → P 0 → AllByRecursion P xs → P (get_or xs k 0)
get_or_keeps P [] k z a = z
get_or_keeps P (x ∷ xs) zero z a = a.0
get_or_keeps P (x ∷ xs) (suc k) z a = get_or_keeps P xs k z a.1

pub arity_le : (w : ℕ) → arity_of w ≤ 4
arity_le w = get_or_keeps (λ n. n ≤ 4) part_counts (w / 2 ^ 27) (omega arith) (omega arith)

scan_end : (n i : ℕ) → 0 < n → scan n i [] ≡ None
scan_end zero i h = absurd (omega arith)
scan_end (suc n) i h = refl

scan_bad : (n i w : ℕ) (ws : List ℕ) → 0 < n → is_term_word w ≡ false → scan n i (w ∷ ws) ≡ None
scan_bad zero i w ws h e = absurd (omega arith)
scan_bad (suc n) i w ws h e = rw e

scan_more : (n i w : ℕ) (ws : List ℕ) → 0 < n → is_term_word w ≡ true → scan n i (w ∷ ws) ≡ scan (n - 1 + arity_of w) (i + 1) ws
scan_more zero i w ws h e = absurd (omega arith)
scan_more (suc n) i w ws h e = let m : suc n - 1 ≡ n = omega arith in rw (e, m)

-- the scan from the word i on, which has place p: at the end of the words, at a word that is none of a term, and at one that is
module _ (xs : List ℕ) (n p i : ℕ) (some : 0 < n) where
  pub scan_drop_end : length xs ≤ i → scan n p (drop i xs) ≡ None
  scan_drop_end h = ap (scan n p) (drop_all i xs h) ∙ scan_end n p some

  pub scan_drop_bad : i < length xs → is_term_word (get_or xs i 0) ≡ false → scan n p (drop i xs) ≡ None
  scan_drop_bad h e = ap (scan n p) (drop_more xs i 0 h) ∙ scan_bad n p (get_or xs i 0) (drop (i + 1) xs) some e

  pub scan_drop_more :
      i < length xs → is_term_word (get_or xs i 0) ≡ true →
      scan n p (drop i xs) ≡ scan (n - 1 + arity_of (get_or xs i 0)) (p + 1) (drop (i + 1) xs)
  scan_drop_more h e = ap (scan n p) (drop_more xs i 0 h) ∙ scan_more n p (get_or xs i 0) (drop (i + 1) xs) some e

pub scan_none : (n i : ℕ) (ws : List ℕ) → n ≤ 0 → scan n i ws ≡ Some i
scan_none zero i ws z = refl
scan_none (suc n) i ws z = absurd (omega arith)

-- how far a term reaches
Reaches : Term → Type 0
Reaches t = Fits t → (n i : ℕ) (rest : List ℕ) → scan (suc n) i (encode t ++ rest) ≡ scan n (i + size t) rest

reaches_all :
    (ts : List Term) → AllByRecursion Reaches ts → AllByRecursion Fits ts → (n i : ℕ) (rest : List ℕ) →
    scan (n + length ts) i (encodes ts ++ rest) ≡ scan n (i + sizes ts) rest
unfolding Reaches
reaches_all [] a f n i rest = ap (λ m. scan m i rest) (omega arith) ∙ ap (λ m. scan n m rest) (omega arith)
reaches_all (t ∷ ts) a f n i rest =
    let s : n + suc (length ts) ≡ suc (n + length ts) = omega arith in
    let h = a.0 f.0 (n + length ts) i (encodes ts ++ rest) in
    let k = reaches_all ts a.1 f.1 n (i + size t) rest in
    let l : i + size t + sizes ts ≡ i + (size t + sizes ts) = omega arith in
    rw (append_assoc, s) (h ∙ k ∙ ap (λ m. scan n m rest) l)

reaches_step : (t : Term) → AllByRecursion Reaches (parts t) → Reaches t
unfolding Reaches
reaches_step t a f n i rest =
    let b = fits_parts t f in
    let h = first_of t b.0 in
    let k = reaches_all (parts t) a b.1 n (i + 1) rest in
    let l : i + 1 + sizes (parts t) ≡ i + size t = omega (arith, size_is t) in
    rw (encode_is t, h.accepted, h.counts) (k ∙ ap (λ m. scan n m rest) l)

pub scan_encode : (t : Term) → Fits t → (n i : ℕ) (rest : List ℕ) → scan (suc n) i (encode t ++ rest) ≡ scan n (i + size t) rest
unfolding Reaches
scan_encode t = by_parts Reaches reaches_step t
