-- A term has one type at most.
use Rattle.calculus.proofs.theorems.types_are_unique.Goals as goal
use Rattle.calculus.proofs.Checking.{one_type}

pub returns : goal.returns
returns c = one_type
