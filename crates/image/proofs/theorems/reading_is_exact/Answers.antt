use Rattle.image.proofs.Exact.{reading_exact}
use Rattle.image.proofs.theorems.reading_is_exact.Goals as goal

pub returns : goal.returns
returns c = reading_exact
