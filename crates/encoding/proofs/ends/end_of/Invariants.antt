use Rattle.std.proofs.Common.{◌≡◌, ◌+◌, ◌<◌, ◌≤◌, ◌*◌, drop}
use Rattle.encoding.specs.Scanning.{scan}
use Rattle.encoding.proofs.ends.end_of.Given as goal

abbrev pub invariant-loop-passed : goal.invariant-loop-passed
invariant-loop-passed l =
    (0 < l.pending) × (l.pending ≤ 1 + 3 * l.passed)
    × (scan l.pending (l.at + l.passed) (drop l.passed l.rest) ≡ scan 1 l.at (drop l.at l.words))
