-- Bindings and their rows last through a history, and new ones are started or copied.
use Rattle.calculus.proofs.theorems.bindings_last.Goals as goal
use Rattle.calculus.proofs.Lasting.{lasting}

pub returns : goal.returns
returns c = lasting
