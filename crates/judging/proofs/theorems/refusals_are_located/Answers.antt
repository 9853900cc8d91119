-- A refusal is at the smallest place of a term without a type whose parts all have one, and its number says why.
use Rattle.judging.proofs.theorems.refusals_are_located.Goals as goal
use Rattle.judging.proofs.Located.{located}

pub returns : goal.returns
returns c = located
