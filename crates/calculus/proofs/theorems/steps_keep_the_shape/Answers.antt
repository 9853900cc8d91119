-- Steps keep the shape, and so does taking an offer.
use Rattle.calculus.proofs.theorems.steps_keep_the_shape.Goals as goal
use Rattle.calculus.proofs.ShapeKept.{shape_kept}

pub returns : goal.returns
returns c = shape_kept
