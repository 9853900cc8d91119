-- A program is accepted exactly with its type and its least yield type, and refused exactly when it has no type.
use Rattle.judging.proofs.theorems.verdicts_are_typings.Goals as goal
use Rattle.judging.proofs.Typings.{typings}

pub returns : goal.returns
returns c = typings
