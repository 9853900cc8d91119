use Rattle.std.proofs.Common.{◌≡◌, Err, sym, ◌∙◌, arith, rules}
use Rattle.steps.proofs.Running.{rests_here, none_yet, all_made, was_ok, was_err, at_rest, refused, one_further}
use Rattle.steps.proofs.run.run_steps.Goals as goal

pub returns-then-is_resting : goal.returns-then-is_resting
returns-then-is_resting g c = λ k m.
    let f = c.loop-made.invariant k m in
    at_rest g.Q.QuantitySet.meaning c.args.image.now c.args.n k c.loop-made.made-counter c.loop-made.image
    c.loop-made.auto.image f c.loop-made-test.true
    (sym (rests_here c.loop-made.image f.last f.is) ∙ sym c.if-is_resting.ensures)

pub returns-in_err-map_err : goal.returns-in_err-map_err
returns-in_err-map_err g c = λ k m.
    let f = c.loop-made.invariant k m in
    let x = was_err c.step.result _ _ c.in_err-map_err.ensures.cases c.in_err-map_err.ensures.variant in
    let w : c.in_err-map_err.field-0.0 ≡ record { fault = x.0; made = c.loop-made.made-counter } = search rules in
    let z : c.from_residual.result ≡ Err c.in_err-map_err.field-0.0 = search rules in
    rw (z, w) (refused g.Q.QuantitySet.meaning c.args.image.now c.args.n k c.loop-made.made-counter c.loop-made.image
    c.loop-made.auto.image f c.loop-made-test.true
    (sym (rests_here c.loop-made.image f.last f.is) ∙ sym c.if-is_resting.ensures) c.step.result c.step.new.image
    x.0 x.1 (c.step.ensures f.last f.is))

pub loop-made-preserved : goal.loop-made-preserved
loop-made-preserved g c = λ k m.
    let f = c.loop-made.invariant k m in
    one_further g.Q.QuantitySet.meaning c.args.image.now c.args.n k c.loop-made.made-counter c.loop-made.image
    c.loop-made.auto.image f c.loop-made-test.true
    (sym (rests_here c.loop-made.image f.last f.is) ∙ sym c.if-is_resting.ensures) c.step.result c.step.new.image
    g.met.Q.QuantitySet.lawful (was_ok c.step.result c.in_ok-map_err.ensures.variant) (c.step.ensures f.last f.is)

pub loop-made-init : goal.loop-made-init
loop-made-init g c = λ k m. none_yet g.Q.QuantitySet.meaning c.args.image.now c.args.n k m

pub returns : goal.returns
returns g c = λ k m.
    all_made g.Q.QuantitySet.meaning c.args.image.now c.args.n k c.loop-made.made-counter c.loop-made.image
    c.loop-made.auto.image (c.loop-made.invariant k m) (omega arith)
