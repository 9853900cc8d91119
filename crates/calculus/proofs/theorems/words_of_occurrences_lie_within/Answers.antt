-- The words of an occurrence lie among those of the term, and the place of the step is one of them.
use Rattle.calculus.proofs.theorems.words_of_occurrences_lie_within.Goals as goal
use Rattle.calculus.proofs.Words.{words_within}

pub returns : goal.returns
returns c = words_within
