use Rattle.std.proofs.Common.{length, sym, ap, ◌∙◌, rules}
use Rattle.programs.specs.Reading.{Split, split}
use Rattle.engine.proofs.Admitted.{words_admitted}
use Rattle.engine.proofs.opening.admitted_words.Goals as goal

pub returns : goal.returns
returns g c =
    let m = g.Q.QuantitySet.meaning in
    let words = c.args.program.now in
    let p : Split = record { rows = c.in_ok-parts.parts.rows.now; term = c.in_ok-parts.parts.term.now } in
    record {
      value =
          words_admitted m g.met.Q.QuantitySet.lawful words (length c.args.scopes.now) (length c.args.judgements.now)
          c.requires.some c.requires.many c.in_ok-admit.field-0 (sym c.in_ok-admit.ensures.answer) p
          (sym (c.in_ok-parts.ensures ∙ ap (λ k. split k words) c.bases.ensures));
      scopes = search rules;
      judgements = search rules;
    }
