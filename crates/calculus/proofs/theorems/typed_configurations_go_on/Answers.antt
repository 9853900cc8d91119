-- Where a resumption at the end of the path has an empty binding, a well-typed configuration is exactly one of the first three.
use Rattle.calculus.proofs.theorems.typed_configurations_go_on.Goals as goal
use Rattle.calculus.proofs.Progress.{progress}

pub returns : goal.returns
returns c = progress
