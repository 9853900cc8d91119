use Rattle.calls.proofs.Showing.{shows_the_value}
use Rattle.calls.proofs.theorems.shows_are_parts.Goals as goal

pub returns : goal.returns
returns c = shows_the_value
