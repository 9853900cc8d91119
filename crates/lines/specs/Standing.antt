-- Where a redex stands.
use Rattle.std.specs.Prelude.{◌≡◌}
use Rattle.calculus.specs.Terms.{Term}
use Rattle.calculus.specs.Configurations.{Configuration}
use Rattle.image.specs.Images.{used}
use Rattle.lines.specs.declared.redex.Redex.{Redex}
use Rattle.lines.specs.Lines.{Hole}

-- the term u stands at the place of the redex in the image of c, and K puts another term in its place
abbrev pub Stands : Redex → Configuration → Term → (Term → Term) → Type 0
Stands r c u K = Hole r.image.now c r.place u K × (r.used ≡ used c)
