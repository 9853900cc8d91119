-- The step as a function gives what the step relation allows.
use Rattle.calculus.proofs.theorems.next_agrees_with_steps.Goals as goal
use Rattle.calculus.proofs.Agreement.{agreement}

pub returns : goal.returns
returns c = agreement
