-- Programs that are admitted or refused, computed by the definitions.
use Rattle.std.proofs.Common.{◌≡◌, ℕ, ◌+◌, ◌*◌, ◌^◌, List, [], ◌∷◌, ◌++◌, replicate, Err, refl}
use Rattle.faults.specs.declared.numbers.FaultNumber.TheVariants.{WorkShort, Depth, YieldType}
use Rattle.faults.specs.Faults.{fault_of}
use Rattle.quantities.specs.Counts.{counts}
use Rattle.rules.specs.Rules.{accepted, refused}
use Rattle.admission.specs.Admission.{admit_answer}

-- a program over counts: the four rows, more rows, and a term
abbrev program : ℕ → ℕ → List ℕ → List ℕ → List ℕ
program rows words more term =
    (22 * 2 ^ 27 + words * 2 ^ 10 + rows) ∷ (0x80000000 ∷ 0x88000000 ∷ 0x90000000 ∷ 0x90000001 ∷ more ++ term)

-- a yield of the count 5 has type Unit and the counts' yield type
yield_admitted :
    admit_answer counts (0xB0000804 ∷ 0x80000000 ∷ 0x88000000 ∷ 0x90000000 ∷ 0x90000001 ∷ 0x28000000 ∷ 0x50000005 ∷ []) 256 256 ≡ accepted 0 2
yield_admitted = refl

-- 255 yields round a unit; 256 of them are too deep
yields_admitted : admit_answer counts (program 4 256 [] (replicate {A = ℕ} 255 0x28000000 ++ 0 ∷ [])) 256 256 ≡ accepted 0 0
yields_admitted = refl

yields_too_deep : admit_answer counts (program 4 257 [] (replicate {A = ℕ} 256 0x28000000 ++ 0 ∷ [])) 256 256 ≡ Err (fault_of Depth 261)
yields_too_deep = refl

-- a coroutine of yield type ⊥, applied to a yield of the count 5
yield_refused :
    admit_answer counts (program 5 5 (0xA0000200 ∷ []) (0x20000000 ∷ 0x18004000 ∷ 0x08000000 ∷ 0x28000000 ∷ 0x50000005 ∷ [])) 256 256
    ≡ Err (fault_of YieldType 6)
unfolding refused
yield_refused = refl

-- a list of 255 entries
short_list : admit_answer counts [] 255 256 ≡ Err (fault_of WorkShort 0)
short_list = refl
