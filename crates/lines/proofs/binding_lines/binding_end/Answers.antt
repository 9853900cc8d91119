use Rattle.lines.proofs.Fields.{is_empty, not_empty}
use Rattle.lines.proofs.Instances.{end_empty, end_ready}
use Rattle.lines.proofs.binding_lines.binding_end.Goals as goal

pub returns-then-not-ready : goal.returns-then-not-ready
returns-then-not-ready c = λ k l β b.
    end_empty c.args.image.now k l β c.args.binding b (is_empty c.if-not-ready.ensures c.get.ensures)

pub returns-else-not-ready : goal.returns-else-not-ready
returns-else-not-ready c = λ k l β b.
    end_ready c.args.image.now k l β c.args.binding c.past.result b (not_empty c.if-not-ready.ensures c.get.ensures)
    c.past.ensures.value
