-- The step relation and the step as a function agree, so a configuration has at most one successor.
use Rattle.std.proofs.Common.{◌≡◌, ◌↔◌, Some}
use Rattle.quantities.specs.Meaning.{Meaning}
use Rattle.calculus.specs.Terms.{Term}
use Rattle.calculus.specs.Configurations.{Bindings, ◌∣◌}
use Rattle.calculus.specs.Steps.{Step}
use Rattle.calculus.specs.Next.{next}
use Rattle.calculus.specs.Statements.{Agreement, OneSuccessor}
use Rattle.calculus.proofs.StepIsNext.{step→next}
use Rattle.calculus.proofs.NextIsStep.{next→step}

module _ (Q : Meaning) where
  pub agrees : (t : Term) (μ : Bindings) (t' : Term) (μ' : Bindings) → Step Q t μ t' μ' ↔ (next Q t μ ≡ Some (t' ∣ μ'))
  agrees t μ t' μ' = (step→next Q, next→step Q t μ (t' ∣ μ'))

  pub deterministic : {t t₁ t₂ : Term} {μ μ₁ μ₂ : Bindings} → Step Q t μ t₁ μ₁ → Step Q t μ t₂ μ₂ → (t₁ ∣ μ₁) ≡ (t₂ ∣ μ₂)
  deterministic s₁ s₂ = let e₁ = step→next Q s₁ in let e₂ = step→next Q s₂ in cc

pub agreement : Agreement
agreement Q t μ t' μ' = agrees Q t μ t' μ'

pub one_successor : OneSuccessor
one_successor Q t t₁ t₂ μ μ₁ μ₂ s₁ s₂ = deterministic Q s₁ s₂
