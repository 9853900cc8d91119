use Rattle.std.proofs.Common.{◌≡◌, ◌+◌, ap, ◌∙◌, arith}
use Rattle.std.specs.Option.{unwrap_or}
use Rattle.calculus.specs.Parts.{size}
use Rattle.image.proofs.Standing.{at_stands, passed}
use Rattle.image.proofs.locate.past.Goals as goal

pub returns-clause-value : goal.returns-clause-value
returns-clause-value c = λ t rest a.
    let i = c.args.at in
    let ws = c.args.words.now in
    let e : c.unwrap_or.result ≡ i + size t =
    c.unwrap_or.ensures ∙ ap (λ o. unwrap_or o i) (c.end_of.ensures.known t (at_stands t rest i ws a)) in
    passed t rest i _ ws a (omega (arith, e))
