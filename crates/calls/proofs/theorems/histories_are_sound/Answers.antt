use Rattle.calls.proofs.Opening.{open_sound}
use Rattle.calls.proofs.theorems.histories_are_sound.Goals as goal

pub returns : goal.returns
returns c = λ m law program s n image spare. open_sound m law program s n image spare
