use Rattle.std.proofs.Common.{sym, ap, ◌∙◌}
use Rattle.calls.specs.Results.{show_answer}
use Rattle.calls.proofs.Showing.{shows_the_value}
use Rattle.engine.proofs.Engine.show.Goals as goal

pub returns : goal.returns
returns g c =
    let s = g.S.Showing.status in
    let rests = g.met.S.Showing.resting in
    let image = c.args.image.now in
    record {
      answer = c.show_part.ensures (λ h. rests (sym c.status.ensures ∙ h)) ∙ ap (λ x. show_answer x image) c.status.ensures;
      part = shows_the_value s rests image;
    }
