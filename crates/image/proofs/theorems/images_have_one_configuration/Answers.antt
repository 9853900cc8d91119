use Rattle.image.proofs.Exact.{one_configuration}
use Rattle.image.proofs.theorems.images_have_one_configuration.Goals as goal

pub returns : goal.returns
returns c = one_configuration
