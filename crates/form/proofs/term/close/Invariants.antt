use Rattle.std.proofs.Common.{◌≡◌, length}
use Rattle.stack.specs.Entries.{entries}
use Rattle.programs.specs.Terms.{closed}
use Rattle.form.proofs.term.close.Given as goal

abbrev pub invariant-loop-parts : goal.invariant-loop-parts
invariant-loop-parts l =
    (length l.due.slots.now ≡ length l.initial.due.slots.now)
    × (l.due.slots.ghost_name ≡ l.initial.due.slots.ghost_name)
    × (closed (entries l.due.slots.now l.due.len) ≡ closed (entries l.initial.due.slots.now l.initial.due.len))

abbrev pub decreases-loop-parts : goal.decreases-loop-parts
decreases-loop-parts l = l.due.len
