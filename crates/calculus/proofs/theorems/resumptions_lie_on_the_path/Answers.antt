-- Every resumption is on the path, with a label of its own and an empty binding.
use Rattle.calculus.proofs.theorems.resumptions_lie_on_the_path.Goals as goal
use Rattle.calculus.proofs.Resumptions.{resumptions_on_path}

pub returns : goal.returns
returns c = resumptions_on_path
