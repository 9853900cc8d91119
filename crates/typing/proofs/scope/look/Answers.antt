use Rattle.std.proofs.Common.{◌≡◌, eqb, reverse, ap, ◌∙◌, arith, rules, tests}
use Rattle.std.specs.List.{find}
use Rattle.std.specs.Option.{option_map}
use Rattle.std.proofs.lemmas.Grind.{common_steps}
use Rattle.std.proofs.lemmas.Iterator.Adapters.{YieldsList-from_rev_slice}
use Rattle.std.proofs.lemmas.Iterator.Search.{find_from_yields_List}
use Rattle.typing.specs.declared.model.Scoped.{Scoped}
use Rattle.typing.proofs.Looking.{look_found}
use Rattle.typing.proofs.scope.look.Goals as goal

pub returns : goal.returns
returns c =
    let found : option_map (λ b. b.now) c.find.result ≡ find (λ (b : Scoped). eqb c.args.name b.variable.name) (reverse c.args.held.now) =
    find_from_yields_List (λ (b : Scoped). eqb c.args.name b.variable.name) _ _ c.find.result c.find.ensures.ran
    (YieldsList-from_rev_slice c.args.held.now cc) (λ x b q k. search (rules, tests))
    in
    let mapped : c.map.result ≡ option_map (λ (b : Scoped). b.variable.row) (option_map (λ b. b.now) c.find.result) = grind (arith, common_steps) in
    mapped ∙ ap (option_map (λ (b : Scoped). b.variable.row)) found ∙ look_found (reverse c.args.held.now) c.args.name
