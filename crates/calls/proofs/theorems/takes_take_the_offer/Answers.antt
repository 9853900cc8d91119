use Rattle.calls.proofs.Runs.{takes_the_offer}
use Rattle.calls.proofs.theorems.takes_take_the_offer.Goals as goal

pub returns : goal.returns
returns c = takes_the_offer
