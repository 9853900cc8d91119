use Rattle.std.proofs.Common.{◌-◌, set, Ok, Err, refl, ap, ◌∙◌, arith, length-set}
use borrow.Rule.Slice.PartMut.{put_mid}
use Rattle.faults.specs.declared.numbers.FaultNumber.TheVariants.{Labels, ImageFull, NoRule}
use Rattle.faults.specs.Faults.{fault_of}
use Rattle.calculus.specs.Places.{place}
use Rattle.calculus.specs.Next.{next}
use Rattle.image.proofs.Whole.{laid}
use Rattle.writing.proofs.TakingOver.{first_then_tail}
use Rattle.steps.proofs.Stepping.{term_stands, place_is, no_rule, labels, overfull, is_made, tail_written}
use Rattle.steps.proofs.step.step.Goals as goal

pub returns-in_default : goal.returns-in_default
returns-in_default g c = λ k m.
    let l = laid c.args.image.now k m in
    let p = place_is c.step_place-p.result k (c.step_place-p.ensures.value k.term (term_stands c.args.image.now k m)) in
    let t = c.in_default.ensures k m p (c.used.ensures ∙ l.head.used) (c.bindings.ensures ∙ l.head.bindings) in
    no_rule c.args.image.now c.args.image.now c.args.spare.now c.write_line.new.spare (place k.term)
    (Err c.new.result) c.requires.same c.requires.low (next g.Q.QuantitySet.meaning k.term k.bindings)
    (ap Err (c.new.ensures ∙ ap (fault_of NoRule) p)) refl t

pub returns-then-m-gt-MOST_BINDINGS : goal.returns-then-m-gt-MOST_BINDINGS
returns-then-m-gt-MOST_BINDINGS g c = λ k m.
    let l = laid c.args.image.now k m in
    let p = place_is c.step_place-p.result k (c.step_place-p.ensures.value k.term (term_stands c.args.image.now k m)) in
    let t = c.in-Some.ensures k m p (c.used.ensures ∙ l.head.used) (c.bindings.ensures ∙ l.head.bindings) in
    labels c.args.image.now c.args.image.now c.args.spare.now c.write_line.new.spare (place k.term)
    (Err c.new-then-m-gt-MOST_BINDINGS.result) c.requires.same c.requires.low c.in-Some.e c.in-Some.m
    (next g.Q.QuantitySet.meaning k.term k.bindings) t c.if-m-gt-MOST_BINDINGS.true
    (ap Err (c.new-then-m-gt-MOST_BINDINGS.ensures ∙ ap (fault_of Labels) p)) refl

pub returns-then-e-image : goal.returns-then-e-image
returns-then-e-image g c = λ k m.
    let l = laid c.args.image.now k m in
    let p = place_is c.step_place-p.result k (c.step_place-p.ensures.value k.term (term_stands c.args.image.now k m)) in
    let t = c.in-Some.ensures k m p (c.used.ensures ∙ l.head.used) (c.bindings.ensures ∙ l.head.bindings) in
    overfull c.args.image.now c.args.image.now c.args.spare.now c.write_line.new.spare (place k.term)
    (Err c.new-then-e-image.result) c.requires.same c.requires.low c.in-Some.e c.in-Some.m
    (next g.Q.QuantitySet.meaning k.term k.bindings) t c.if-m-gt-MOST_BINDINGS.false c.if-e-image.true
    (ap Err (c.new-then-e-image.ensures ∙ ap (fault_of ImageFull) p)) refl

pub returns : goal.returns
returns g c = λ k m.
    let l = laid c.args.image.now k m in
    let p = place_is c.step_place-p.result k (c.step_place-p.ensures.value k.term (term_stands c.args.image.now k m)) in
    let t = c.in-Some.ensures k m p (c.used.ensures ∙ l.head.used) (c.bindings.ensures ∙ l.head.bindings) in
    let w = c.head_word.result in
    let n = length-set c.args.image.now 0 w in
    is_made c.args.image.now _ c.args.spare.now c.write_line.new.spare (place k.term) (Ok tt) c.requires.same c.requires.low
    c.in-Some.e c.in-Some.m (next g.Q.QuantitySet.meaning k.term k.bindings) t c.if-m-gt-MOST_BINDINGS.false c.if-e-image.false
    refl w c.take_over.new.tail c.head_word.ensures
    (tail_written c.args.image.now c.write_line.new.spare c.take_over.new.tail w c.saturating_sub.result c.in-Some.e
    c.take_over.ensures c.saturating_sub.ensures)
    (ap (λ j. put_mid 1 (j - 1) (set c.args.image.now 0 w) c.take_over.new.tail) n
    ∙ first_then_tail c.args.image.now c.take_over.new.tail w (omega (arith, c.requires.low)))
