use Rattle.std.proofs.Common.{length, arith}
use Rattle.std.proofs.lemmas.Grind.{common_steps}
use Rattle.rules.specs.Rules.{refused}
use Rattle.typing.proofs.Runs.{on_standing}
use Rattle.typing.proofs.check.check.Goals as goal

pub returns-in_err-map_err-clause-answer : goal.returns-in_err-map_err-clause-answer
unfolding refused
returns-in_err-map_err-clause-answer g c = grind (arith, common_steps)

pub returns-in_err-map_err-clause-term : goal.returns-in_err-map_err-clause-term
returns-in_err-map_err-clause-term g c =
    on_standing g.Q.QuantitySet.meaning c.args.rows.now (length c.args.scopes.now) (length c.args.judgements.now) c.args.words.now c.args.at _ (returns-in_err-map_err-clause-answer g c)

pub returns-in_err-map_err-2-clause-answer : goal.returns-in_err-map_err-2-clause-answer
unfolding refused
returns-in_err-map_err-2-clause-answer g c = grind (arith, common_steps)

pub returns-in_err-map_err-2-clause-term : goal.returns-in_err-map_err-2-clause-term
returns-in_err-map_err-2-clause-term g c =
    on_standing g.Q.QuantitySet.meaning c.args.rows.now (length c.args.scopes.now) (length c.args.judgements.now) c.args.words.now c.args.at _ (returns-in_err-map_err-2-clause-answer g c)

pub returns-in-Some-clause-answer : goal.returns-in-Some-clause-answer
returns-in-Some-clause-answer g c = grind (arith, common_steps)

pub returns-in-Some-clause-term : goal.returns-in-Some-clause-term
returns-in-Some-clause-term g c =
    on_standing g.Q.QuantitySet.meaning c.args.rows.now (length c.args.scopes.now) (length c.args.judgements.now) c.args.words.now c.args.at _ (returns-in-Some-clause-answer g c)

pub returns-clause-answer : goal.returns-clause-answer
unfolding refused
returns-clause-answer g c = grind (arith, common_steps)

pub returns-clause-term : goal.returns-clause-term
returns-clause-term g c =
    on_standing g.Q.QuantitySet.meaning c.args.rows.now (length c.args.scopes.now) (length c.args.judgements.now) c.args.words.now c.args.at _ (returns-clause-answer g c)

pub returns-in_err-judged-clause-answer : goal.returns-in_err-judged-clause-answer
returns-in_err-judged-clause-answer g c = grind (arith, common_steps)

pub returns-in_err-judged-clause-term : goal.returns-in_err-judged-clause-term
returns-in_err-judged-clause-term g c =
    on_standing g.Q.QuantitySet.meaning c.args.rows.now (length c.args.scopes.now) (length c.args.judgements.now) c.args.words.now c.args.at _ (returns-in_err-judged-clause-answer g c)
