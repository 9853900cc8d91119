use Rattle.std.proofs.Common.{◌/◌, ◌^◌, ap, ◌∙◌}
use Rattle.rules.specs.Rules.{abstraction_rule, coroutine_rule, start_rule}
use Rattle.typing.proofs.Steps.{by_kind}
use Rattle.typing.proofs.check.rule.Goals as goal

pub returns-in-Some-Abstraction : goal.returns-in-Some-Abstraction
returns-in-Some-Abstraction g c =
    let f = c.args.frame in
    c.abstraction.ensures
    ∙ ap (λ r. abstraction_rule c.args.rows.now f.place r f.first) c.row.ensures
    ∙ by_kind g.Q.QuantitySet.meaning c.args.rows.now _ f 2 (f.word / 2 ^ 27)
    (rw c.in-Some-Abstraction.field-0-is at c.in-Some-Abstraction.ensures.number)

pub returns-in-Some-Coroutine : goal.returns-in-Some-Coroutine
returns-in-Some-Coroutine g c =
    let f = c.args.frame in
    c.coroutine.ensures
    ∙ ap (λ r. coroutine_rule c.args.rows.now f.place r f.first) c.row-in-Some-Coroutine.ensures
    ∙ by_kind g.Q.QuantitySet.meaning c.args.rows.now _ f 3 (f.word / 2 ^ 27)
    (rw c.in-Some-Coroutine.field-0-is at c.in-Some-Coroutine.ensures.number)

pub returns-in-Some-Start : goal.returns-in-Some-Start
returns-in-Some-Start g c =
    let f = c.args.frame in
    c.start.ensures
    ∙ ap (λ r. start_rule c.args.rows.now f.place r f.first f.second) c.row-in-Some-Start.ensures
    ∙ by_kind g.Q.QuantitySet.meaning c.args.rows.now _ f 6 (f.word / 2 ^ 27)
    (rw c.in-Some-Start.field-0-is at c.in-Some-Start.ensures.number)
