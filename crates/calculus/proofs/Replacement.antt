-- Replacing a name by a closed value, or by a closed fix term, keeps type and yield type.
use Rattle.std.proofs.Common.{◌≡◌, ℕ, ◌⊎◌, List, [], subst, inl, inr}
use Rattle.calculus.specs.Terms.{Term, fix, Value}
use Rattle.calculus.specs.Rows.{Setting}
use Rattle.calculus.specs.Typing.{Typed, t_fix}
use Rattle.calculus.specs.Statements.{Replacement}
use Rattle.calculus.proofs.Inversion.{inverse}
use Rattle.calculus.proofs.Substitution.{substitution}
use Rattle.calculus.proofs.Values.{quiet_value}

-- both have yield type ⊥, whatever it is read as
quiet_source : {S : Setting} {Σ : List ℕ} {s : Term} {A Z : ℕ} → (Value s ⊎ ((f : Term) × (s ≡ fix f))) → Typed S Σ [] s A Z →
    Typed S Σ [] s A 1
quiet_source (inl v) d = quiet_value v d
quiet_source {S} {Σ} {s} {A} {Z} (inr e) d = rw e.1 (fixed (subst (λ w. Typed S Σ [] w A Z) e.1 d))
  where
    fixed : {f : Term} → Typed S Σ [] (fix f) A Z → Typed S Σ [] (fix f) A 1
    fixed d = let u = (inverse d).rule in t_fix u.row_is u.function

pub replacement : Replacement
replacement S Σ Γ x A Z s t T Y k d e = substitution (quiet_source k d) e
