-- A step happens at the path's last term, by one of the lines, and leaves all else as it is.
use Rattle.calculus.proofs.theorems.steps_happen_at_the_path.Goals as goal
use Rattle.calculus.proofs.StepAtPath.{step_at_path}

pub returns : goal.returns
returns c = step_at_path
