-- Interlocks: one base with the conditions 0 run, 1 hold, 2 stop and 3 fault.
use Rattle.std.specs.Prelude.{ℕ, max, Bool, cond, ◌&&◌, List, [], ◌∷◌, None, Option, ◌==◌, nat_lt, slice_index, slice_index_or}
use Rattle.quantities.specs.declared.Signature.{Signature}
use Rattle.quantities.specs.Meaning.{Meaning, takes}

abbrev pub interlocks_holds : ℕ → ℕ → Bool
interlocks_holds k p = k == 0 && nat_lt p 4

abbrev pub interlocks_signature : ℕ → Option Signature
interlocks_signature o = cond (nat_lt o 2) (takes 0 0 0) None

-- the row of the first operand, the place of the second
abbrev pub transitions : List (List ℕ)
transitions =
    (0 ∷ 1 ∷ 2 ∷ 3 ∷ [])
    ∷ (0 ∷ 1 ∷ 2 ∷ 3 ∷ [])
    ∷ (1 ∷ 1 ∷ 2 ∷ 3 ∷ [])
    ∷ (3 ∷ 3 ∷ 2 ∷ 3 ∷ [])
    ∷ []

-- 0 gives the larger of two conditions, 1 the entry of the table
abbrev pub interlocks_result : ℕ → ℕ → ℕ → ℕ
interlocks_result o p q =
    cond (nat_lt p 4 && nat_lt q 4) (cond (o == 0) (max p q) (cond (o == 1) (slice_index (slice_index_or transitions p []) q) 0)) 0

abbrev pub interlocks : Meaning
interlocks = record { bases = 1; holds = interlocks_holds; signature = interlocks_signature; result = interlocks_result }
