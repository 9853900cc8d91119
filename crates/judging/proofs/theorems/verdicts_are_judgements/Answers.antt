-- The verdict on a program term is the judgement of the calculus.
use Rattle.judging.proofs.theorems.verdicts_are_judgements.Goals as goal
use Rattle.programs.specs.Tables.{table_words}
use Rattle.judging.proofs.Tables.{written}
use Rattle.judging.proofs.Same.{same}

pub returns : goal.returns
returns c = λ S w Γ i t p. same S (table_words S.table) (written S.table w) t p Γ i
