-- A suspension never climbs past a resumption, wherever in the term that stands.
use Rattle.calculus.proofs.theorems.suspensions_stay_in_resumptions.Goals as goal
use Rattle.calculus.proofs.Misreadings.{confinement}

pub returns : goal.returns
returns c = confinement
