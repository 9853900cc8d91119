-- Programs that are read, and refusals with their places, computed by the definitions.
use Rattle.std.proofs.Common.{◌≡◌, ℕ, ◌+◌, ◌*◌, ◌^◌, List, [], ◌∷◌, ◌++◌, replicate, Ok, Err, refl}
use Rattle.faults.specs.declared.numbers.FaultNumber.TheVariants.{Head, Row, RowTwice, TermWord, TermEnd, Depth}
use Rattle.faults.specs.Faults.{fault_of}
use Rattle.programs.specs.Reading.{read_program}

-- the rows of counts
abbrev counts_rows : List ℕ
counts_rows = 0x80000000 ∷ 0x88000000 ∷ 0x90000000 ∷ 0x90000001 ∷ []

-- a program over counts: the four rows, more rows, and a term
abbrev program : ℕ → ℕ → List ℕ → List ℕ → List ℕ
program rows words more term = (22 * 2 ^ 27 + words * 2 ^ 10 + rows) ∷ (counts_rows ++ (more ++ term))

yield_read :
    read_program 2 (0xB0000804 ∷ 0x80000000 ∷ 0x88000000 ∷ 0x90000000 ∷ 0x90000001 ∷ 0x28000000 ∷ 0x50000005 ∷ [])
    ≡ Ok (record { rows = counts_rows; term = 0x28000000 ∷ 0x50000005 ∷ [] })
yield_read = refl

empty_refused : read_program 2 [] ≡ Err (fault_of Head 0)
empty_refused = refl

-- 256 yields round a unit: the unit is at depth 257
too_deep : read_program 2 (program 4 257 [] (replicate {A = ℕ} 256 0x28000000 ++ 0 ∷ [])) ≡ Err (fault_of Depth 261)
too_deep = refl

deep_enough :
    read_program 2 (program 4 256 [] (replicate {A = ℕ} 255 0x28000000 ++ 0 ∷ []))
    ≡ Ok (record { rows = counts_rows; term = replicate {A = ℕ} 255 0x28000000 ++ 0 ∷ [] })
deep_enough = refl

-- row 4 refers to itself
row_refused : read_program 2 (program 5 1 (0x98000004 ∷ []) (0 ∷ [])) ≡ Err (fault_of Row 5)
row_refused = refl

row_twice : read_program 2 (program 6 1 (0x98000000 ∷ 0x98000000 ∷ []) (0 ∷ [])) ≡ Err (fault_of RowTwice 6)
row_twice = refl

-- an abstraction over row 0, which is no function type
word_refused : read_program 2 (program 4 2 [] (0x10000000 ∷ 0 ∷ [])) ≡ Err (fault_of TermWord 5)
word_refused = refl

ends_early : read_program 2 (program 4 2 [] (0 ∷ 0 ∷ [])) ≡ Err (fault_of TermEnd 6)
ends_early = refl

ends_late : read_program 2 (program 4 1 [] (0x28000000 ∷ [])) ≡ Err (fault_of TermEnd 6)
ends_late = refl
