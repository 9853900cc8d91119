use Rattle.std.proofs.Common.{◌≡◌, ◌+◌, ◌*◌, ◌≤◌}
use Rattle.writing.proofs.Substituting.{SoFar}
use Rattle.writing.proofs.writer.Writer.push_body.Given as goal

abbrev pub invariant-loop-word : goal.invariant-loop-word
invariant-loop-word l =
    (l.shaded ≤ 1 + 4 * l.word-index)
    × (l.self.out.ghost_name ≡ l.initial.self.out.ghost_name)
    × SoFar l.x l.value l.body l.initial.self.out.now l.initial.self.at l.self.out.now l.self.at l.shaded l.word-index
