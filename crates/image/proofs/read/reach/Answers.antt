use Rattle.std.proofs.Common.{◌≡◌, ◌+◌, ◌-◌, ◌%◌, ◌∷◌, sym, ap, ◌∙◌, arith}
use Rattle.encoding.proofs.Scanning.{arity_le}
use Rattle.image.specs.Behind.{place}
use Rattle.image.specs.Reading.{reach}
use Rattle.image.proofs.OneWord.{term_more, binding_more}
use Rattle.image.proofs.Shrinking.{next_behind, next_place}
use Rattle.image.proofs.read.reach.Goals as goal

pub loop-pending-preserved-else-not-stands : goal.loop-pending-preserved-else-not-stands
loop-pending-preserved-else-not-stands c =
    let l = c.loop-pending in
    let n = c.args.count in
    let ws = c.args.words.now in
    let w = c.in_ok-word.field-0-0.now in
    let more = c.in_ok-word.behind.now in
    let e : l.rest.now ≡ w ∷ more = c.in_ok-word.ensures.cases.0 in
    let b = next_behind ws l.rest.now l.invariant.behind w more e in
    let p = next_place ws l.rest.now l.invariant.behind w more e in
    record {
      behind = b;
      few = omega (arith, arity_le, p);
      fewer = l.invariant.fewer;
      same =
          (λ i. reach n (l.pending - 1 + c.arity.ensures i) l.left (p i) more)
          ∙ sym (term_more n l.pending l.left (place ws l.rest.now) w more c.if-pending-gt0.true (sym c.stands.ensures ∙ c.if-not-stands.false))
          ∙ ap (reach n l.pending l.left (place ws l.rest.now)) (sym e) ∙ l.invariant.same;
    }

pub loop-pending-preserved : goal.loop-pending-preserved
loop-pending-preserved c =
    let l = c.loop-pending in
    let n = c.args.count in
    let ws = c.args.words.now in
    let w = c.in_ok-word.field-0-0.now in
    let more = c.in_ok-word.behind.now in
    let e : l.rest.now ≡ w ∷ more = c.in_ok-word.ensures.cases.0 in
    let b = next_behind ws l.rest.now l.invariant.behind w more e in
    let p = next_place ws l.rest.now l.invariant.behind w more e in
    record {
      behind = b;
      few = omega arith;
      fewer = omega (arith, l.invariant.fewer);
      same =
          (λ i. reach n (w % 2) (l.left - 1) (p i) more)
          ∙ sym (binding_more n l.pending l.left (place ws l.rest.now) w more c.if-pending-gt0.false c.loop-pending-test.true
          (sym c.is_binding.ensures ∙ c.if-not-is_binding.false))
          ∙ ap (reach n l.pending l.left (place ws l.rest.now)) (sym e) ∙ l.invariant.same;
    }
