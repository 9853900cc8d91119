use Rattle.calls.proofs.OpenExactly.{opens_exactly}
use Rattle.calls.proofs.theorems.opens_are_exact.Goals as goal

pub returns : goal.returns
returns c = λ m law program s n image spare. opens_exactly m law program s n image spare
