use Rattle.std.proofs.Common.{sym, ◌∙◌}
use Rattle.path.proofs.Unfinished.{pause_ends, pause_found}
use Rattle.path.proofs.pause.pause_at.Goals as goal

pub returns-in_err-place-clause-value : goal.returns-in_err-place-clause-value
returns-in_err-place-clause-value c =
    c.from_residual.ensures ∙ sym (pause_ends c.args.words.now c.args.at c.args.parts (sym c.in_err-place.ensures.value))

pub returns-clause-value : goal.returns-clause-value
returns-clause-value c =
    c.then_some.ensures
    ∙ sym (pause_found c.args.words.now c.args.at c.args.parts _ (sym c.in_ok-place.ensures.value) _ c.is_of.ensures)
