-- What an operation on two atoms answers.
use Rattle.std.specs.Prelude.{◌≡◌, ℕ, Some, None, Option, MatchOption}
use Rattle.calculus.specs.Terms.{atom}
use Rattle.calculus.specs.Configurations.{Bindings, Configuration, ◌∣◌}

-- the base and the payload of the atom that the line gives, or the line does not apply
abbrev pub Operated : Option (ℕ × ℕ) → Bindings → Option Configuration → Type 0
Operated r μ ℓ = MatchOption r (ℓ ≡ None) (λ w. ℓ ≡ Some (atom w.0 w.1 ∣ μ))
