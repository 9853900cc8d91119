-- A step keeps types and yield types, and so does taking an offer; rows of bindings only grow at the end.
use Rattle.calculus.proofs.theorems.steps_keep_types.Goals as goal
use Rattle.calculus.proofs.Preservation.{preservation}

pub returns : goal.returns
returns c = preservation
