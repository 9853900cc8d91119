-- A term has type T and yield type Y exactly when the judgement answers T and a yield type that may be read as Y.
use Rattle.calculus.proofs.theorems.checking_is_exact.Goals as goal
use Rattle.calculus.proofs.Checking.{checking}

pub returns : goal.returns
returns c = checking
