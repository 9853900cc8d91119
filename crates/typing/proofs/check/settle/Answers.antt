use Rattle.std.proofs.Common.{sym, ◌∙◌, rules}
use Rattle.stack.specs.Entries.{entries}
use Rattle.typing.proofs.Steps.{settle_wait, settle_fault}
use Rattle.typing.proofs.check.settle.Goals as goal

pub returns-then-not-full-clause-all : goal.returns-then-not-full-clause-all
returns-then-not-full-clause-all g c =
    sym c.loop-frame.invariant.settles
    ∙ settle_wait g.Q.QuantitySet.meaning c.args.rows.now (entries c.loop-frame.scope.slots.now c.loop-frame.scope.len)
    c.in-Some.frame (entries c.loop-frame.frames.slots.now c.loop-frame.frames.len) _ c.in-Some.ensures (sym c.if-not-full.ensures)

pub returns-in_err-judged-clause-all : goal.returns-in_err-judged-clause-all
returns-in_err-judged-clause-all g c =
    let h =
    sym c.loop-frame.invariant.settles
    ∙ settle_fault g.Q.QuantitySet.meaning c.args.rows.now (entries c.loop-frame.scope.slots.now c.loop-frame.scope.len)
    c.in-Some.frame (entries c.loop-frame.frames.slots.now c.loop-frame.frames.len) _ c.rule.result c.in_err-judged.field-0.0
    c.in-Some.ensures (sym c.if-not-full.ensures) (sym c.rule.ensures) c.in_err-judged.was
    in
    search rules
