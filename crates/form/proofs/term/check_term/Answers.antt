use Rattle.std.proofs.Common.{◌≡◌, suc, ◌+◌, length, ap, ◌∙◌, arith}
use Rattle.std.proofs.lemmas.Result.{err_from_is_err_and}
use Rattle.stack.specs.Entries.{entries}
use Rattle.form.specs.Parted.{fine}
use Rattle.programs.specs.Terms.{opened}
use Rattle.form.proofs.TermLoop.{turn_faulty, turn_shallow, turn_fine}
use Rattle.form.proofs.term.check_term.Goals as goal

pub returns-in_err-check_word : goal.returns-in_err-check_word
returns-in_err-check_word c =
    let l = c.loop-i in
    let rows = c.args.rows.now in
    let o = entries l.due.slots.now l.due.len in
    let p = err_from_is_err_and c.from_residual.result c.from_residual.ensures.1 in
    let f =
    turn_faulty rows c.args.term.now (suc (length rows)) l.i c.len.result (length rows + 1 + l.i) o c.loop-i-test.true
    c.len.ensures (omega arith) c.in_err-check_word.field-0.0 c.in_err-check_word.ensures
    in
    rw (p.1, p.2) (ap fine (f ∙ l.invariant.2))

pub loop-i-preserved : goal.loop-i-preserved
loop-i-preserved c =
    let l = c.loop-i in
    let rows = c.args.rows.now in
    let xs = c.args.term.now in
    let o = entries l.due.slots.now l.due.len in
    let e = c.in_ok-check_word.ensures in
    let place : length rows + 1 + l.i ≡ l.i + suc (length rows) = omega arith in
    let small =
    turn_shallow rows xs (suc (length rows)) l.i c.len.result (length rows + 1 + l.i) o c.loop-i-test.true c.len.ensures place e
    in (
      c.open_term.ensures.over.0 ∙ l.invariant.0,
      c.open_term.ensures.over.1 ∙ l.invariant.1,
      turn_fine rows xs (suc (length rows)) l.i c.len.result (length rows + 1 + l.i) o c.loop-i-test.true c.len.ensures place
          (entries c.open_term.new.due.slots.now c.open_term.new.due.len) e
          (c.open_term.ensures.all (omega (arith, small, l.invariant.0)) ∙ ap (λ n. opened n o) c.arity.ensures)
          ∙ l.invariant.2,
    )
