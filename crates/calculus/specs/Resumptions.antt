-- Where resumptions occur in a running configuration.
use Rattle.std.specs.Prelude.{◌≡◌, ℕ, Some}
use Rattle.calculus.specs.Lists.{at}
use Rattle.calculus.specs.Terms.{Term}
use Rattle.calculus.specs.Occurrences.{Position, ResumptionAt}
use Rattle.calculus.specs.Configurations.{empty, ready, Bindings}
use Rattle.calculus.specs.Places.{path, OnThePath}

-- What holds of the resumptions of a term t with the bindings μ.
pub record ResumptionsOnPath (t : Term) (μ : Bindings) : Type 0 where
  -- every occurrence of a resumption is on the path
  pub on_path : (p : Position) (l : ℕ) → ResumptionAt t p l → OnThePath t p
  -- two occurrences with one label are the same
  pub one_each : (p q : Position) (l : ℕ) → ResumptionAt t p l → ResumptionAt t q l → p ≡ q
  -- the binding of each is empty
  pub binding_empty : (p : Position) (l : ℕ) → ResumptionAt t p l → (i : ℕ) × (at μ l ≡ Some (empty i))
  -- none occurs in a ready body
  pub not_in_bodies : (l i : ℕ) (b : Term) → at μ l ≡ Some (ready i b) → (p : Position) (k : ℕ) → ResumptionAt b p k → ⊥

-- where the path ends at a resumption, its binding is empty
abbrev pub EndsOnEmpty : Term → Bindings → Type 0
EndsOnEmpty t μ = (l : ℕ) → ResumptionAt t (path t) l → (i : ℕ) × (at μ l ≡ Some (empty i))
