-- A machine that counts the terms still to come passes over the words of a term.
use Rattle.std.proofs.Common.{◌≡◌, ℕ, suc, ◌+◌, List, [], ◌∷◌, ◌++◌, length, ap, ◌∙◌, append_assoc, arith}
use Rattle.std.specs.List.{AllByRecursion}
use Rattle.calculus.specs.Terms.{Term}
use Rattle.calculus.specs.Parts.{parts, size, sizes}
use Rattle.layout.specs.Layout.{word_of}
use Rattle.encoding.specs.Encoding.{first_word, encode, encodes}
use Rattle.encoding.proofs.Parts.{encode_is, size_is, by_parts}

-- F n i ws: n terms are to come at place i. P holds of the parts of a term where it holds of the term, and the machine goes over the
-- first word of such a term to its parts
module _
    {A : Type 0} (F : ℕ → ℕ → List ℕ → A) (P : Term → Type 0) (down : (t : Term) → P t → AllByRecursion P (parts t))
    (step :
    (t : Term) → P t → (n i : ℕ) (rest : List ℕ) →
    F (suc n) i (word_of (first_word t) ∷ (encodes (parts t) ++ rest)) ≡ F (n + length (parts t)) (i + 1) (encodes (parts t) ++ rest)) where
  abbrev Passes : Term → Type 0
  Passes t = P t → (n i : ℕ) (rest : List ℕ) → F (suc n) i (encode t ++ rest) ≡ F n (i + size t) rest

  row_passes :
      (ts : List Term) → AllByRecursion Passes ts → AllByRecursion P ts → (n i : ℕ) (rest : List ℕ) →
      F (n + length ts) i (encodes ts ++ rest) ≡ F n (i + sizes ts) rest
  row_passes [] a f n i rest = ap (λ m. F m i rest) (omega arith) ∙ ap (λ m. F n m rest) (omega arith)
  row_passes (t ∷ ts) a f n i rest =
      let s : n + suc (length ts) ≡ suc (n + length ts) = omega arith in
      let l : i + size t + sizes ts ≡ i + (size t + sizes ts) = omega arith in
      rw (append_assoc, s)
      (a.0 f.0 (n + length ts) i (encodes ts ++ rest) ∙ row_passes ts a.1 f.1 n (i + size t) rest ∙ ap (λ m. F n m rest) l)

  passes_step : (t : Term) → AllByRecursion Passes (parts t) → Passes t
  passes_step t a f n i rest =
      let l : i + 1 + sizes (parts t) ≡ i + size t = omega (arith, size_is t) in
      rw (encode_is t) (step t f n i rest ∙ row_passes (parts t) a (down t f) n (i + 1) rest ∙ ap (λ m. F n m rest) l)

  pub passes : (t : Term) → P t → (n i : ℕ) (rest : List ℕ) → F (suc n) i (encode t ++ rest) ≡ F n (i + size t) rest
  passes t = by_parts Passes passes_step t

  every_passes : (ts : List Term) → AllByRecursion Passes ts
  every_passes [] = tt
  every_passes (t ∷ ts) = (passes t, every_passes ts)

  pub passes_all :
      (ts : List Term) → AllByRecursion P ts → (n i : ℕ) (rest : List ℕ) →
      F (n + length ts) i (encodes ts ++ rest) ≡ F n (i + sizes ts) rest
  passes_all ts = row_passes ts (every_passes ts)
