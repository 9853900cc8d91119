-- Values and suspensions at the root have no successor.
use Rattle.std.proofs.Common.{◌≡◌, ℕ, sym, ◌∙◌, arith}
use Rattle.quantities.specs.Meaning.{Meaning}
use Rattle.calculus.specs.Terms.{Term, suspension, Value}
use Rattle.calculus.specs.Configurations.{Bindings}
use Rattle.calculus.specs.Steps.{Still}
use Rattle.calculus.specs.Views.{is_suspension_term, is_other}
use Rattle.calculus.specs.Statements.{Rest}
use Rattle.calculus.proofs.Tests.{never}
use Rattle.calculus.proofs.StepIsNext.{quiet}

pub still_value : {Q : Meaning} {t : Term} {μ : Bindings} → Value t → Still Q t μ
still_value v u ν s = never (sym (quiet s).0 ∙ v)

pub still_suspension : {Q : Meaning} {t v : Term} {μ : Bindings} → Still Q (suspension t v) μ
still_suspension {t = t} {v = v} u ν s = let e : is_suspension_term t v ≡ is_other = (quiet s).1 in let z : ◌≡◌ {A = ℕ} 0 1 = cc in omega arith

pub rest : Rest
rest Q μ = (λ v h. still_value h, λ t v. still_suspension)
