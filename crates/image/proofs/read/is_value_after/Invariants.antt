use Rattle.std.proofs.Common.{◌≡◌, ◌+◌, ◌*◌, ◌≤◌, drop}
use Rattle.image.specs.Reading.{value_after}
use Rattle.image.proofs.read.is_value_after.Given as goal

abbrev pub invariant-loop-word : goal.invariant-loop-word
invariant-loop-word l = record {
  few : l.pending ≤ l.terms + 3 * l.word-index;
  same : value_after l.pending (drop l.word-index l.words) ≡ value_after l.terms l.words;
}
