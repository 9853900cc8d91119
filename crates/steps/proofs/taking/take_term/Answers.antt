use Rattle.std.proofs.Common.{◌-◌, set, ap, ◌∙◌, arith, length-set}
use borrow.Rule.Slice.PartMut.{put_mid}
use Rattle.calculus.specs.Terms.{suspension}
use Rattle.calculus.specs.Configurations.{◌∣◌}
use Rattle.image.proofs.Whole.{laid}
use Rattle.writing.proofs.TakingOver.{first_then_tail}
use Rattle.steps.proofs.Stepping.{tail_written, image_written}
use Rattle.steps.proofs.TakenTerm.{suspended_image, take_fits}
use Rattle.steps.proofs.taking.take_term.Goals as goal

pub returns-then-end-image : goal.returns-then-end-image
returns-then-end-image c = λ k t v m q.
    absurd
    (take_fits c.args.image.now c.args.spare.now c.write_taken-end.new.spare t v k.bindings c.write_taken-end.result
    (suspended_image c.args.image.now k t v m q) c.requires.same (c.write_taken-end.ensures k t v m q) c.if-end-image.true)

pub returns : goal.returns
returns c = λ k t v m q.
    let h = (laid c.args.image.now (suspension t v ∣ k.bindings) (suspended_image c.args.image.now k t v m q)).head in
    let written = c.write_taken-end.new.spare in
    let end = c.write_taken-end.result in
    let w = c.head_word.result in
    let n = length-set c.args.image.now 0 w in
    let fits = c.if-end-image.false in
    ap (λ j. put_mid 1 (j - 1) (set c.args.image.now 0 w) c.take_over.new.tail) n
    ∙ first_then_tail c.args.image.now c.take_over.new.tail w (omega (arith, c.requires.low))
    ∙ image_written c.args.image.now c.args.spare.now written end c.bindings.result w c.take_over.new.tail (t ∣ k.bindings)
    c.requires.same c.requires.low ((c.write_taken-end.ensures k t v m q).put (omega (arith, fits, c.requires.same)))
    (c.bindings.ensures ∙ h.bindings) c.head_word.ensures
    (tail_written c.args.image.now written c.take_over.new.tail w c.saturating_sub.result end c.take_over.ensures
    c.saturating_sub.ensures)
