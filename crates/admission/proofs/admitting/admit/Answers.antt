use Rattle.std.proofs.Common.{◌≡◌, length, ap, ◌∙◌, arith}
use Rattle.std.proofs.lemmas.Grind.{common_steps}
use lib.ListN.{length-replicate}
use Rattle.programs.specs.Reading.{Split, read_program}
use Rattle.admission.proofs.Answered.{of_parts}
use Rattle.admission.proofs.Deciding.{decided}
use Rattle.admission.proofs.admitting.admit.Goals as goal

pub returns-in_err-parts-clause-answer : goal.returns-in_err-parts-clause-answer
returns-in_err-parts-clause-answer g c = grind (arith, common_steps)

pub returns-in_err-parts-clause-decides : goal.returns-in_err-parts-clause-decides
returns-in_err-parts-clause-decides g c =
    decided g.Q.QuantitySet.meaning g.met.Q.QuantitySet.lawful c.args.program.now (length c.args.scopes.now) (length c.args.judgements.now) _
    (returns-in_err-parts-clause-answer g c)

pub returns-clause-answer : goal.returns-clause-answer
returns-clause-answer g c =
    let m = g.Q.QuantitySet.meaning in
    let words = c.args.program.now in
    let s = length c.args.scopes.now in
    let n = length c.args.judgements.now in
    let a : length c.clear.new.slots ≡ s = ap length c.clear.ensures ∙ simp length-replicate in
    let b : length c.clear-2.new.slots ≡ n = ap length c.clear-2.ensures ∙ simp length-replicate in
    let p : Split = record { rows = c.in_ok-parts.parts.rows.now; term = c.in_ok-parts.parts.term.now } in
    c.check.ensures.answer
    ∙ of_parts m words s n p (omega (arith, a, c.if-scopes-lt256.false)) (omega (arith, b, c.if-judgements-lt256.false))
    (c.in_ok-parts.ensures ∙ ap (λ k. read_program k words) c.bases.ensures) _ _ _ (omega arith) a b

pub returns-clause-decides : goal.returns-clause-decides
returns-clause-decides g c =
    decided g.Q.QuantitySet.meaning g.met.Q.QuantitySet.lawful c.args.program.now (length c.args.scopes.now) (length c.args.judgements.now) _
    (returns-clause-answer g c)
