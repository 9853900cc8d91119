-- Examples over the set of counts, computed by the definitions; one of them shows that the premises of the theorems can be met.
use Rattle.std.proofs.Common.{◌≡◌, ℕ, zero, suc, List, [], ◌∷◌, Some, None, refl, arith}
use Rattle.quantities.specs.Counts.{counts}
use Rattle.quantities.specs.CountsLaw.{counts_lawful}
use Rattle.calculus.specs.Terms.{Term, unit, coroutine, yield, start, resume, atom, operation, suspension}
use Rattle.calculus.specs.Rows.{Row, unit_type, bottom_type, base_type, coroutine_type, instance_type, Setting, WellFormed}
use Rattle.calculus.specs.Typing.{InScope, as_is, Typed}
use Rattle.calculus.specs.Judgement.{judged, judge}
use Rattle.calculus.specs.Configurations.{ready, Bindings, Configuration, ◌∣◌}
use Rattle.calculus.specs.Next.{next}
use Rattle.calculus.specs.Histories.{History, Safe}
use Rattle.calculus.proofs.Checking.{checking}
use Rattle.calculus.proofs.Histories.{always}
use Rattle.calculus.proofs.Tables.{well_formed}

abbrev counting : Setting
counting = record { table = unit_type ∷ bottom_type ∷ base_type 0 ∷ base_type 1 ∷ []; set = counts }

-- n steps, or as many as there are
abbrev after : ℕ → Term → Bindings → Configuration
after zero t μ = t ∣ μ
after (suc n) t μ = elim (next counts t μ) [ None ↦ t ∣ μ | Some c ↦ after n c.term c.bindings ]

-- a yield of the count 5 has type Unit and the counts' yield type, and becomes a suspension
yield_judged : judge counting [] [] (yield (atom 0 5)) ≡ judged 0 2
unfolding judge
yield_judged = refl

yield_steps : next counts (yield (atom 0 5)) [] ≡ Some (suspension unit (atom 0 5) ∣ [])
unfolding next
yield_steps = refl

-- counts add modulo 65,536
addition_steps : next counts (operation 0 (atom 0 65535) (atom 0 1)) [] ≡ Some (atom 0 0 ∣ [])
unfolding next
addition_steps = refl

abbrev yields : ℕ → Term
yields zero = unit
yields (suc n) = yield (yields n)

yields_judged : judge counting [] [] (yields 255) ≡ judged 0 0
unfolding judge
yields_judged = refl

-- an instance is started, resumed, and captured at its yield
abbrev rows_of_one_resume : List Row
rows_of_one_resume =
    base_type 0 ∷ base_type 1 ∷ coroutine_type 0 2 0 ∷ instance_type 2 0 ∷ coroutine_type 0 1 0 ∷ coroutine_type 2 1 0 ∷ []

abbrev resuming : Setting
resuming = record { table = unit_type ∷ bottom_type ∷ rows_of_one_resume; set = counts }

abbrev one_resume : Term
one_resume =
    resume (start 5 (coroutine 0 4 (yield (atom 0 7))) unit) (coroutine 0 6 unit) (coroutine 0 7 unit) (coroutine 0 6 unit)

one_resume_judged : judge resuming [] [] one_resume ≡ judged 0 1
unfolding judge
one_resume_judged = refl

one_resume_runs : after 5 one_resume [] ≡ (unit ∣ ready 5 unit ∷ [])
unfolding next
one_resume_runs = refl

one_resume_rests : after 50 one_resume [] ≡ after 5 one_resume []
unfolding next
one_resume_rests = refl

resuming_formed : WellFormed resuming
resuming_formed = well_formed counts rows_of_one_resume counts_lawful refl refl refl

none_in_scope : InScope resuming []
none_in_scope = record { is_row = λ n T e. let z : ◌≡◌ {A = ℕ} 0 1 = cc in absurd (omega arith) }

one_resume_typed : Typed resuming [] [] one_resume 0 1
unfolding judge
one_resume_typed = (checking resuming resuming_formed [] [] none_in_scope one_resume 0 1).1 (1, refl, as_is refl)

pub one_resume_safe : (t : Term) (μ : Bindings) → History counts one_resume t μ → Safe resuming t μ 0 1
one_resume_safe t μ h = always resuming resuming_formed one_resume ((tt, tt), tt, tt, tt) 0 1 one_resume_typed t μ h
