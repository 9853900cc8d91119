use Rattle.programs.proofs.Heads.{heads}
use Rattle.programs.proofs.theorems.heads_are_exact.Goals as goal

pub returns : goal.returns
returns c = heads
