use Rattle.image.proofs.Exact.{one_image}
use Rattle.image.proofs.theorems.configurations_have_one_image.Goals as goal

pub returns : goal.returns
returns c = one_image
