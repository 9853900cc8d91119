-- A value has no successor, and a suspension at the root has none.
use Rattle.calculus.proofs.theorems.values_and_suspensions_rest.Goals as goal
use Rattle.calculus.proofs.Rest.{rest}

pub returns : goal.returns
returns c = rest
