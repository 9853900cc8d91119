-- A line at a resume is a pause, or the instance and all three handlers are values.
use Rattle.calculus.proofs.theorems.handlers_are_evaluated_first.Goals as goal
use Rattle.calculus.proofs.Misreadings.{handlers_first}

pub returns : goal.returns
returns c = handlers_first
