use Rattle.programs.proofs.Programs.{accepted}
use Rattle.programs.proofs.theorems.accepted_words_are_programs.Goals as goal

pub returns : goal.returns
returns c = accepted
