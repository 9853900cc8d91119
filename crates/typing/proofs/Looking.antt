-- A name looked up among variables, the newest first.
use Rattle.std.proofs.Common.{◌≡◌, ℕ, Bool, true, false, cond, eqb, Option, List, [], ◌∷◌, Some, refl}
use Rattle.std.specs.List.{find}
use Rattle.std.specs.Option.{option_map}
use Rattle.rules.specs.Rules.{look}
use Rattle.typing.specs.declared.model.Scoped.{Scoped}
use Rattle.typing.specs.Machine.{variables}

-- the first variable of the name has its row
pub look_found :
    (xs : List Scoped) (n : ℕ) →
    option_map (λ (b : Scoped). b.variable.row) (find (λ (b : Scoped). eqb n b.variable.name) xs) ≡ look (variables xs) n
look_found [] n = refl
look_found (x ∷ xs) n = by (eqb n x.variable.name) _ _ (look_found xs n)
  where
    by :
        (t : Bool) (o : Option Scoped) (r : Option ℕ) → option_map (λ (b : Scoped). b.variable.row) o ≡ r →
        option_map (λ (b : Scoped). b.variable.row) (cond t (Some x) o) ≡ cond t (Some x.variable.row) r
    by true o r h = refl
    by false o r h = h
