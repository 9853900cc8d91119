-- The path enters the first evaluated part that is not a value, unless that is a suspension; it ends at an occurrence.
use Rattle.calculus.proofs.theorems.the_path_goes_as_defined.Goals as goal
use Rattle.calculus.proofs.PathEntered.{path_entered}

pub returns : goal.returns
returns c = path_entered
