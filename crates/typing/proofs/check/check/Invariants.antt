use Rattle.std.proofs.Common.{◌≡◌, [], length, drop}
use Rattle.stack.specs.Entries.{entries}
use Rattle.typing.specs.Machine.{run}
use Rattle.typing.proofs.check.check.Given as goal

abbrev pub invariant-loop-place : goal.invariant-loop-place
invariant-loop-place g l =
    record {
      scope_room : length l.scope.slots.now ≡ length l.fn.scopes;
      frames_room : length l.frames.slots.now ≡ length l.fn.judgements;
      scope_lent : l.scope.slots.ghost_name ≡ l.initial.scope.slots.ghost_name;
      frames_lent : l.frames.slots.ghost_name ≡ l.initial.frames.slots.ghost_name;
      runs :
          run g.Q.QuantitySet.meaning l.rows (length l.fn.scopes) (length l.fn.judgements) l.place (entries l.frames.slots.now l.frames.len) (entries l.scope.slots.now l.scope.len) (drop l.place l.words)
          ≡ run g.Q.QuantitySet.meaning l.rows (length l.fn.scopes) (length l.fn.judgements) l.at [] [] (drop l.at l.words);
    }
