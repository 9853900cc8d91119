use Rattle.calculus.specs.Configurations.{Configuration}
use Rattle.image.specs.Images.{Image}
use Rattle.steps.proofs.Running.{SoFar}
use Rattle.steps.proofs.run.run_steps.Given as goal

-- so many steps are made, and the image is that of the configuration after them
abbrev pub invariant-loop-made : goal.invariant-loop-made
invariant-loop-made g l =
    (c : Configuration) → Image l.initial.image c → SoFar g.Q.QuantitySet.meaning l.initial.image l.n c l.made-counter l.image
