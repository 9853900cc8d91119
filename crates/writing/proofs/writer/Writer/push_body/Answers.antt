use Rattle.std.proofs.Common.{sym, ap, ◌∙◌, arith}
use Rattle.writing.proofs.Substituting.{hit_more, keep_more, moved, shade_le}
use Rattle.writing.proofs.writer.Writer.push_body.Goals as goal
use Rattle.writing.proofs.writer.Writer.push_body.Goals.{then-is_free, else-is_free}

pub loop-word-preserved : goal.loop-word-preserved
loop-word-preserved c =
    let i = c.loop-word.invariant in
    elim c.if-is_free.branch [
      | then-is_free w ↦ (
        omega (arith, w.shaded-is),
        ap (λ s. s.out.ghost_name) w.self-is ∙ w.push.ensures.same ∙ i.1,
        moved
            (hit_more _ _ _ _ _ _ _ _ _ i.2 c.loop-word-test.true (sym w.if-is_free.ensures) w.push.ensures.all)
            (ap (λ s. s.out.now) w.self-is) (ap (λ s. s.at) w.self-is) w.shaded-is,
      )
      | else-is_free w ↦ (
        omega (arith, w.shaded-is, w.shade-shaded.ensures, shade_le),
        ap (λ s. s.out.ghost_name) w.self-is ∙ w.word.ensures.same ∙ i.1,
        moved
            (keep_more _ _ _ _ _ _ _ _ _ i.2 c.loop-word-test.true (sym w.if-is_free.ensures) w.word.ensures.all)
            (ap (λ s. s.out.now) w.self-is) (ap (λ s. s.at) w.self-is) (w.shaded-is ∙ w.shade-shaded.ensures),
      )
    ]
