-- While an instance executes, a resume of it has one step, which applies the fourth part to unit.
use Rattle.calculus.proofs.theorems.instances_never_run_twice.Goals as goal
use Rattle.calculus.proofs.Misreadings.{never_twice}

pub returns : goal.returns
returns c = never_twice
