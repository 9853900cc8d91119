use Rattle.std.proofs.Common.{◌≡◌, ◌+◌, ◌*◌, ◌≤◌, drop}
use Rattle.image.specs.Seeking.{seek}
use Rattle.image.proofs.locate.binding_at.Given as goal

abbrev pub invariant-loop-passed : goal.invariant-loop-passed
invariant-loop-passed l = record {
  few : l.pending ≤ 1 + 3 * l.passed;
  same : seek l.pending l.left (l.passed + 1) (drop l.passed l.body) ≡ seek 1 l.label 1 l.body;
}
