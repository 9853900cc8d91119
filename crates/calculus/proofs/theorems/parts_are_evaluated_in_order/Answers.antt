-- Where the parts left of a part are values and the part is none, the step is the part's.
use Rattle.calculus.proofs.theorems.parts_are_evaluated_in_order.Goals as goal
use Rattle.calculus.proofs.Misreadings.{in_order}

pub returns : goal.returns
returns c = in_order
