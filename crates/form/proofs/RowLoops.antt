-- One turn of the loop over rows.
use Rattle.std.proofs.Common.{◌≡◌, ℕ, suc, ◌+◌, ◌-◌, ◌<◌, Bool, true, false, cond, ◌||◌, ◌==◌, List, [], ◌∷◌, ◌++◌, length, get_or, take, drop, Some, Option, sym, refl, ap, ◌∙◌, add-one}
use native.Mathlib.Nat.{sub-zero}
use Rattle.std.specs.List.{list_any}
use Rattle.std.proofs.lemmas.List.{drop_more, take_more}
use Rattle.faults.specs.declared.Fault.{Fault}
use Rattle.faults.specs.declared.numbers.FaultNumber.TheVariants.{Row, RowTwice}
use Rattle.faults.specs.Faults.{fault_of}
use Rattle.programs.specs.Rows.{row_rule, among, rows_fault}

-- whether a word is among some is whether one of them is equal to it
pub among_any : (w : ℕ) (xs : List ℕ) → list_any (λ x. x == w) xs ≡ among w xs
among_any w [] = refl
among_any w (x ∷ xs) = ap (λ b. x == w || b) (among_any w xs)

abbrev turn : ℕ → ℕ → List ℕ → ℕ → List ℕ → Bool → Bool → Option Fault
turn K r before w ws rule twice =
    cond rule (cond twice (Some (fault_of RowTwice (suc r))) (rows_fault K (suc r) (before ++ w ∷ []) ws)) (Some (fault_of Row (suc r)))

-- the rows from row i on
module _ (K : ℕ) (xs : List ℕ) (i : ℕ) (within : i < length xs) where
  abbrev w : ℕ
  w = get_or xs i 0

  from_row : rows_fault K i (take i xs) (drop i xs) ≡ turn K i (take i xs) w (drop (i + 1) xs) (row_rule K i w) (among w (take i xs))
  from_row = ap (rows_fault K i (take i xs)) (drop_more xs i 0 within)

  pub row_twice :
      true ≡ row_rule K i w → true ≡ list_any (λ x. x == w) (take (i - 0) xs) →
      Some (fault_of RowTwice (i + 1)) ≡ rows_fault K i (take i xs) (drop i xs)
  row_twice e h =
      ap (λ n. Some (fault_of RowTwice n)) (add-one i)
      ∙ ap (λ b. turn K i (take i xs) w (drop (i + 1) xs) true b) (h ∙ among_any w (take (i - 0) xs) ∙ ap (λ n. among w (take n xs)) (sub-zero i))
      ∙ ap (λ b. turn K i (take i xs) w (drop (i + 1) xs) b (among w (take i xs))) e ∙ sym from_row

  pub row_good :
      true ≡ row_rule K i w → false ≡ list_any (λ x. x == w) (take (i - 0) xs) →
      rows_fault K (i + 1) (take (i + 1) xs) (drop (i + 1) xs) ≡ rows_fault K i (take i xs) (drop i xs)
  row_good e h =
      ap (λ b. rows_fault K (i + 1) b (drop (i + 1) xs)) (take_more xs i 0 within)
      ∙ ap (λ n. rows_fault K n (take i xs ++ w ∷ []) (drop (i + 1) xs)) (add-one i)
      ∙ ap (λ b. turn K i (take i xs) w (drop (i + 1) xs) true b) (h ∙ among_any w (take (i - 0) xs) ∙ ap (λ n. among w (take n xs)) (sub-zero i))
      ∙ ap (λ b. turn K i (take i xs) w (drop (i + 1) xs) b (among w (take i xs))) e ∙ sym from_row
