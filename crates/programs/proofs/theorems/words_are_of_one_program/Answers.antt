use Rattle.programs.proofs.Programs.{one_program}
use Rattle.programs.proofs.theorems.words_are_of_one_program.Goals as goal

pub returns : goal.returns
returns c = one_program
