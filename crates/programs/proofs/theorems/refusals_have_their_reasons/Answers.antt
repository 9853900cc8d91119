use Rattle.programs.proofs.Programs.{refused}
use Rattle.programs.proofs.theorems.refusals_have_their_reasons.Goals as goal

pub returns : goal.returns
returns c = refused
