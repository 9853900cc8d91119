-- What `Safe` lists holds in every history of a well-typed program.
use Rattle.calculus.proofs.theorems.histories_stay_safe.Goals as goal
use Rattle.calculus.proofs.Histories.{always}

pub returns : goal.returns
returns c = always
