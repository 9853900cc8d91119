-- A term that stands at a place among words: its words, its end and its parts.
use Rattle.std.proofs.Common.{◌≡◌, ℕ, ◌+◌, ◌<◌, ◌≤◌, List, [], ◌∷◌, ◌++◌, length, get_or, take, drop, Some, None, Option, sym, ap, ◌∙◌, append_assoc, append-nil, add-zero, arith, length-drop, length-take, MatchOption}
use Rattle.std.specs.List.{AllByRecursion}
use Rattle.std.proofs.lemmas.Option.{none-some}
use Rattle.std.proofs.lemmas.List.{take-append-drop, take_at, drop_at, drop-drop, get_or-drop}
use Rattle.calculus.specs.Terms.{Term}
use Rattle.calculus.specs.Parts.{parts, size}
use Rattle.layout.specs.Layout.{word_of}
use Rattle.encoding.specs.Encoding.{first_word, encode, encodes, Fits, Stands, AllStand}
use Rattle.encoding.specs.Scanning.{scan}
use Rattle.encoding.specs.Laws.{PartsStand}
use Rattle.encoding.proofs.Parts.{encode_is, size_is, fits_parts, length_encode}
use Rattle.encoding.proofs.Reading.{unique}
use Rattle.encoding.proofs.Scanning.{scan_encode}
use Rattle.encoding.proofs.Found.{found}

module _ (t : Term) (ws : List ℕ) (i : ℕ) where
  pub stands_words : Stands t ws i → drop i ws ≡ encode t ++ drop (size t) (drop i ws)
  stands_words s = sym (take-append-drop (size t) (drop i ws)) ∙ ap (λ l. l ++ drop (size t) (drop i ws)) s.1

  pub stands_from : (rest : List ℕ) → Fits t → drop i ws ≡ encode t ++ rest → Stands t ws i
  stands_from rest f e = (f, ap (take (size t)) e ∙ take_at (encode t) rest (size t) (length_encode t))

  pub stands_scan : Stands t ws i → scan 1 i (drop i ws) ≡ Some (i + size t)
  stands_scan s = ap (scan 1 i) (stands_words s) ∙ scan_encode t s.0 0 i (drop (size t) (drop i ws))

-- the same under other names for the words and the place
pub stands_same : (t : Term) (ws vs : List ℕ) (i j : ℕ) → vs ≡ ws → j ≡ i → Stands t ws i → Stands t vs j
stands_same t ws vs i j e f s = (s.0, ap (λ l. take (size t) (drop j l)) e ∙ ap (λ k. take (size t) (drop k ws)) f ∙ s.1)

-- one term at most stands at a place
pub stands_once : (t u : Term) (ws : List ℕ) (i : ℕ) → Stands t ws i → Stands u ws i → t ≡ u
stands_once t u ws i s p = (unique t u s.0 p.0 _ _ (sym (stands_words t ws i s) ∙ stands_words u ws i p)).0

-- a term that fits stands at the front of its own words
pub stands_alone : (t : Term) → Fits t → Stands t (encode t) 0
stands_alone t f = stands_from t (encode t) 0 [] f (sym (append-nil (encode t)))

one_found :
    (ws : List ℕ) (i e : ℕ) (ts : List Term) (rest : List ℕ) → AllByRecursion Fits ts → length ts ≡ 1 → drop i ws ≡ encodes ts ++ rest →
    e ≡ i + length (encodes ts) → (t : Term) × Stands t ws i × (e ≡ i + size t)
one_found ws i e [] rest f n s q = absurd (omega arith)
one_found ws i e (t ∷ u ∷ ts) rest f n s q = absurd (omega arith)
one_found ws i e (t ∷ []) rest f n s q =
    let none = append-nil (encode t) in
    (t, stands_from t ws i rest f.0 (s ∙ ap (λ l. l ++ rest) none), q ∙ ap (λ l. i + length l) none ∙ ap (λ m. i + m) (length_encode t))

pub scan_stands : (ws : List ℕ) (i e : ℕ) → scan 1 i (drop i ws) ≡ Some e → (t : Term) × Stands t ws i × (e ≡ i + size t)
scan_stands ws i e h =
    let r = found (drop i ws) 1 i e h in one_found ws i e r.terms r.rest r.fits r.count r.same r.ends

-- what the scan answers, in terms
pub end_cases :
    (ws : List ℕ) (i : ℕ) (r : Option ℕ) → r ≡ scan 1 i (drop i ws) →
    MatchOption r ((t : Term) → Stands t ws i → ⊥) (λ e. (t : Term) × Stands t ws i × (e ≡ i + size t))
end_cases ws i None e = λ t s. none-some (i + size t) (e ∙ stands_scan t ws i s)
end_cases ws i (Some x) e = scan_stands ws i x (sym e)

pub end_known : (ws : List ℕ) (i : ℕ) (r : Option ℕ) → r ≡ scan 1 i (drop i ws) → (t : Term) → Stands t ws i → r ≡ Some (i + size t)
end_known ws i r e t s = e ∙ stands_scan t ws i s

row_stands :
    (ts : List Term) (ws : List ℕ) (i : ℕ) (rest : List ℕ) → AllByRecursion Fits ts → drop i ws ≡ encodes ts ++ rest → AllStand ts ws i
row_stands [] ws i rest f e = tt
row_stands (t ∷ ts) ws i rest f e =
    let g = e ∙ append_assoc (encode t) (encodes ts) rest in
    let behind = sym (drop-drop (size t) i ws) ∙ ap (drop (size t)) g ∙ drop_at (encode t) (encodes ts ++ rest) (size t) (length_encode t) in
    (stands_from t ws i (encodes ts ++ rest) f.0 g, row_stands ts ws (i + size t) rest f.1 behind)

module _ (t : Term) (ws : List ℕ) (i : ℕ) (s : Stands t ws i) where
  from_first : drop i ws ≡ word_of (first_word t) ∷ (encodes (parts t) ++ drop (size t) (drop i ws))
  from_first = stands_words t ws i s ∙ ap (λ l. l ++ drop (size t) (drop i ws)) (encode_is t)

  pub parts_of_standing : AllStand (parts t) ws (i + 1)
  parts_of_standing =
      row_stands (parts t) ws (i + 1) (drop (size t) (drop i ws)) (fits_parts t s.0).1
      (sym (drop-drop 1 i ws) ∙ ap (drop 1) from_first)

  pub first_stands : get_or ws i 0 ≡ word_of (first_word t)
  first_stands = ap (λ k. get_or ws k 0) (sym (add-zero i)) ∙ sym (get_or-drop i ws 0 0) ∙ ap (λ l. get_or l 0 0) from_first

  pub stands_within : i + size t ≤ length ws
  stands_within = omega (arith, ap length s.1, length-take (size t) (drop i ws), length-drop i ws, length_encode t, ap length (encode_is t))

  pub stands_inside : i < length ws
  stands_inside = omega (arith, stands_within, size_is t)

pub end_within : (ws : List ℕ) (i e : ℕ) → Some e ≡ scan 1 i (drop i ws) → (i < e) × (e ≤ length ws)
end_within ws i e h =
    let p = scan_stands ws i e (sym h) in (omega (arith, p.2, size_is p.0), omega (arith, p.2, stands_within p.0 ws i p.1))

pub parts_stand : PartsStand
parts_stand = parts_of_standing
