use Rattle.std.proofs.Common.{◌≡◌, sym, ◌∙◌, arith}
use Rattle.std.proofs.lemmas.Grind.{common_steps}
use Rattle.image.specs.Reading.{is_image}
use Rattle.image.proofs.Whole.{image_is, images_are}
use Rattle.image.proofs.read.read_image.Goals as goal

pub returns-then-contains-clause-decides : goal.returns-then-contains-clause-decides
returns-then-contains-clause-decides c =
    let ws = c.args.words.now in
    let e : c.headed.result ≡ is_image ws = grind (arith, common_steps) in
    (λ h. images_are ws (sym e ∙ h), λ p. e ∙ image_is ws p.0 p.1)
