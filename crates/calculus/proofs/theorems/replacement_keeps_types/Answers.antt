-- Replacing a name by a closed value, or by a closed fix term, keeps type and yield type, whatever else is in scope.
use Rattle.calculus.proofs.theorems.replacement_keeps_types.Goals as goal
use Rattle.calculus.proofs.Replacement.{replacement}

pub returns : goal.returns
returns c = replacement
