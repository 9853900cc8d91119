use Rattle.std.proofs.Common.{◌≡◌, ◌+◌, ◌-◌, ◌*◌, ◌≤◌, length}
use Rattle.image.specs.Behind.{Behind, place}
use Rattle.image.specs.Reading.{reach}
use Rattle.image.proofs.read.reach.Given as goal

abbrev pub invariant-loop-pending : goal.invariant-loop-pending
invariant-loop-pending l = record {
  behind : Behind l.words l.rest;
  few : l.pending ≤ 1 + 3 * (length l.words - length l.rest);
  fewer : l.left ≤ l.count;
  same : reach l.count l.pending l.left (place l.words l.rest) l.rest ≡ reach l.count 1 l.count 1 l.words;
}

abbrev pub decreases-loop-pending : goal.decreases-loop-pending
decreases-loop-pending l = length l.rest
