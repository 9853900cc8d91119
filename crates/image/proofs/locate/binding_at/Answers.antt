use Rattle.std.proofs.Common.{◌≡◌, ◌+◌, ◌-◌, length, drop, sym, ap, ◌∙◌, arith}
use Rattle.encoding.proofs.Scanning.{arity_le}
use Rattle.image.specs.Seeking.{seek}
use Rattle.image.proofs.OneWord.{seek_none, seek_behind, seek_over_term, seek_over_binding}
use Rattle.image.proofs.Standing.{bound}
use Rattle.image.proofs.locate.binding_at.Goals as goal
use Rattle.image.proofs.locate.binding_at.Goals.{then-pending-gt0, else-pending-gt0+then-left-gt0}

pub loop-passed-preserved : goal.loop-passed-preserved
loop-passed-preserved c =
    let at = c.loop-passed in
    let ws = c.in-Some.body.now in
    elim c.if-pending-gt0.branch [
      | then-pending-gt0 w ↦
          let e = seek_over_term ws at.passed c.loop-passed-test.true at.pending at.left (at.passed + 1) w.if-pending-gt0.true in
          let p = w.pending-is ∙ ap (λ k. at.pending - 1 + k) w.arity.ensures in
          record {
            few = omega (arith, arity_le);
            same = (λ i. seek (p i) (w.left-is i) (at.passed + 1 + 1) (drop (at.passed + 1) ws)) ∙ sym e ∙ at.invariant.same;
          }
      | else-pending-gt0+then-left-gt0 w ↦
          let e = seek_over_binding ws at.passed c.loop-passed-test.true at.pending at.left (at.passed + 1)
          w.if-pending-gt0.false w.if-left-gt0.true in
          record {
            few = omega arith;
            same = (λ i. seek (w.pending-is i) (w.left-is i) (at.passed + 1 + 1) (drop (at.passed + 1) ws)) ∙ sym e ∙ at.invariant.same;
          }
    ]

pub returns-else-left-gt0-clause-seeks : goal.returns-else-left-gt0-clause-seeks
returns-else-left-gt0-clause-seeks c = λ _.
    let at = c.loop-passed in
    let here = seek_none at.pending at.left (at.passed + 1) (drop at.passed c.in-Some.body.now) c.if-pending-gt0.false c.if-left-gt0.false in
    sym here ∙ at.invariant.same ∙ ap (λ l. seek 1 c.args.label 1 (drop 1 l)) (sym c.in-Some.ensures.cases.0)

pub returns-else-left-gt0-clause-value : goal.returns-else-left-gt0-clause-value
returns-else-left-gt0-clause-value c = λ k β m e.
    bound c.args.image.now k c.args.label β _ m e (returns-else-left-gt0-clause-seeks c (omega (arith, m.fits.low)))

pub returns-clause-seeks : goal.returns-clause-seeks
returns-clause-seeks c = λ _.
    let at = c.loop-passed in
    let end : length c.args.image.now ≡ at.passed + 1 = omega (arith, c.in-Some.ensures.cases.1, c.loop-passed-test.false) in
    let here = seek_behind c.in-Some.body.now at.passed at.pending at.left (at.passed + 1) c.loop-passed-test.false in
    end ∙ sym here ∙ at.invariant.same ∙ ap (λ l. seek 1 c.args.label 1 (drop 1 l)) (sym c.in-Some.ensures.cases.0)

pub returns-clause-value : goal.returns-clause-value
returns-clause-value c = λ k β m e.
    bound c.args.image.now k c.args.label β _ m e (returns-clause-seeks c (omega (arith, m.fits.low)))
