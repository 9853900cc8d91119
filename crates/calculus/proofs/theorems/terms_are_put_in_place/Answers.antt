-- A term put in the place of an occurrence stands there, at the same word.
use Rattle.calculus.proofs.theorems.terms_are_put_in_place.Goals as goal
use Rattle.calculus.proofs.PutInPlace.{put_in_place}

pub returns : goal.returns
returns c = put_in_place
