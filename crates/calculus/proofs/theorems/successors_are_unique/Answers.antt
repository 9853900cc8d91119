-- A configuration has at most one successor.
use Rattle.calculus.proofs.theorems.successors_are_unique.Goals as goal
use Rattle.calculus.proofs.Agreement.{one_successor}

pub returns : goal.returns
returns c = one_successor
