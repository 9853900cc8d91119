use Rattle.std.proofs.Common.{length}
use Rattle.console.proofs.pieces.split_at_spaces.Given as goal

abbrev pub decreases-loop-start : goal.decreases-loop-start
decreases-loop-start l = length l.rest
