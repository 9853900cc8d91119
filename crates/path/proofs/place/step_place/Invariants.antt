use Rattle.std.proofs.Common.{◌≡◌, ◌-◌, ◌≤◌, length, drop}
use Rattle.path.specs.Walking.{walk}
use Rattle.path.proofs.place.step_place.Given as goal

abbrev pub invariant-loop-next : goal.invariant-loop-next
invariant-loop-next l = record {
  inside : l.last ≤ length l.words;
  ahead : l.from ≤ length l.words;
  same : walk l.from l.last l.parts 0 (drop l.from l.words) ≡ walk l.at l.at 1 0 (drop l.at l.words);
}

abbrev pub decreases-loop-next : goal.decreases-loop-next
decreases-loop-next l = length l.words - l.from
