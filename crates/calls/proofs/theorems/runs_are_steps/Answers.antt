use Rattle.calls.proofs.Runs.{runs_by_steps}
use Rattle.calls.proofs.theorems.runs_are_steps.Goals as goal

pub returns : goal.returns
returns c = λ m law n image spare. runs_by_steps m law n image spare
