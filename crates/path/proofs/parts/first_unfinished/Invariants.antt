use Rattle.std.proofs.Common.{◌≡◌, ◌+◌, ◌*◌, ◌≤◌, drop}
use Rattle.path.specs.Walking.{unfinished}
use Rattle.path.proofs.parts.first_unfinished.Given as goal

abbrev pub invariant-loop-place : goal.invariant-loop-place
invariant-loop-place l = record {
  few : l.skip ≤ 1 + 3 * l.place;
  same : unfinished l.place l.left l.skip (drop l.place l.words) ≡ unfinished l.at l.terms 0 (drop l.at l.words);
}
