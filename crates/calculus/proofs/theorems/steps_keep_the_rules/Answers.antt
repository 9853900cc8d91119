-- A step keeps the rules of a configuration, and so does taking an offer; a program term with no binding keeps them.
use Rattle.calculus.proofs.theorems.steps_keep_the_rules.Goals as goal
use Rattle.calculus.proofs.Configured.{rules_kept}

pub returns : goal.returns
returns c = rules_kept
