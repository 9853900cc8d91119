use Rattle.std.proofs.Common.{◌≡◌, length}
use Rattle.stack.specs.Entries.{entries, SameSlots}
use Rattle.typing.specs.Machine.{settle}
use Rattle.typing.proofs.check.settle.Given as goal

abbrev pub invariant-loop-frame : goal.invariant-loop-frame
invariant-loop-frame g l =
    record {
      scope_over : SameSlots l.initial.scope.slots l.scope.slots;
      frames_over : SameSlots l.initial.frames.slots l.frames.slots;
      settles :
          settle g.Q.QuantitySet.meaning l.rows (entries l.scope.slots.now l.scope.len) (entries l.frames.slots.now l.frames.len)
          ≡ settle g.Q.QuantitySet.meaning l.rows (entries l.initial.scope.slots.now l.initial.scope.len) (entries l.initial.frames.slots.now l.initial.frames.len);
    }

abbrev pub decreases-loop-frame : goal.decreases-loop-frame
decreases-loop-frame g l = length (entries l.frames.slots.now l.frames.len)
