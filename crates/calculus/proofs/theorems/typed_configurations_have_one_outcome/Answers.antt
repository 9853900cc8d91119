-- A well-typed configuration is exactly one of: a value, a suspension that offers, a configuration with one successor, stuck.
use Rattle.calculus.proofs.theorems.typed_configurations_have_one_outcome.Goals as goal
use Rattle.calculus.proofs.Progress.{outcomes_of_typed}

pub returns : goal.returns
returns c = outcomes_of_typed
