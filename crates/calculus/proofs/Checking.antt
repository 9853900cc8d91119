-- The judgement is exact, and a term has one type at most.
use Rattle.std.proofs.Common.{◌≡◌, ℕ, Option, ap}
use Rattle.calculus.specs.Judgement.{Judgement, judged}
use Rattle.calculus.specs.Statements.{Checking, OneType}
use Rattle.calculus.proofs.Frames.{raise}
use Rattle.calculus.proofs.Completeness.{complete}
use Rattle.calculus.proofs.Correctness.{found}

-- cc takes a constructor's arguments out, and no record's fields: those by ap
one_judgement : {o : Option Judgement} {T U V W : ℕ} → o ≡ judged T V → o ≡ judged U W → T ≡ U
one_judgement {T = T} {U = U} {V = V} {W = W} p q =
    let z : record { type = T; yields = V } ≡ record { type = U; yields = W } = cc in ap (λ (j : Judgement). j.type) z

pub checking : Checking
checking S L Σ Γ g t T Y = (complete, λ k. raise k.2 (found L t g _ k.1))

pub one_type : OneType
one_type S Σ Γ t T U Y Z d e = one_judgement (complete d).1 (complete e).1
