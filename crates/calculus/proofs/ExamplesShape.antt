-- Configurations of good shape, and one that is stuck.
use Rattle.std.proofs.Common.{◌≡◌, ℕ, zero, suc, [], ◌∷◌, Some, refl, inl, arith}
use Rattle.quantities.specs.Counts.{counts}
use Rattle.calculus.specs.Lists.{at}
use Rattle.calculus.specs.Terms.{Term, unit, application, yield, instance}
use Rattle.calculus.specs.Judgement.{judged, judge}
use Rattle.calculus.specs.Configurations.{empty, ready, Bindings}
use Rattle.calculus.specs.Steps.{Step, Only}
use Rattle.calculus.specs.Shape.{Plain, p_plain, p_executing, Shaped}
use Rattle.calculus.specs.Outcomes.{Stuck}
use Rattle.calculus.proofs.Misreadings.{never_twice}
use Rattle.calculus.proofs.ExamplesTables.{count⇝unit, many_rows}
use Rattle.calculus.proofs.ExamplesTerms.{five, on_result, on_yield, on_neither, resume_once, executing}

-- Two instances execute, the second inside the first, and the first is resumed there; a third is ready.
abbrev both_executing : Term → Term
both_executing t = executing 0 (executing 1 t)

abbrev resumes_first : Term
resumes_first = resume_once (instance 0 count⇝unit)

abbrev third_ready : Bindings
third_ready = empty count⇝unit ∷ empty count⇝unit ∷ ready count⇝unit (yield five) ∷ []

plain_bodies : (l i : ℕ) (t : Term) → at third_ready l ≡ Some (ready i t) → Plain t
plain_bodies zero i t e = let z : ◌≡◌ {A = ℕ} 0 1 = cc in absurd (omega arith)
plain_bodies (suc zero) i t e = let z : ◌≡◌ {A = ℕ} 0 1 = cc in absurd (omega arith)
plain_bodies (suc (suc zero)) i t e = let z : yield five ≡ t = cc in rw (← z) tt
plain_bodies (suc (suc (suc l))) i t e = let z : ◌≡◌ {A = ℕ} 0 1 = cc in absurd (omega arith)

resumed_while_executing : Shaped (both_executing resumes_first) third_ready
resumed_while_executing = record {
  labels = 0 ∷ 1 ∷ [];
  active = p_executing (refl, refl, refl) (tt, tt, tt) (p_executing (refl, refl, refl) (tt, tt, tt) (p_plain (tt, tt, tt, tt)));
  distinct = ((λ e. omega arith, tt), (tt, tt));
  empties = ((count⇝unit, refl), ((count⇝unit, refl), tt));
  bodies = record { plain = plain_bodies };
}

-- so its only step applies the fourth part to unit
fourth_part_only :
    Step counts (both_executing resumes_first) third_ready (both_executing (application on_neither unit)) third_ready ×
    Only counts (both_executing resumes_first) third_ready (both_executing (application on_neither unit)) third_ready
fourth_part_only =
    never_twice counts (both_executing resumes_first) third_ready [] 0 count⇝unit on_result on_yield on_neither resumed_while_executing
    (record { body = executing 1 resumes_first; of_result = on_result; of_yield = on_yield; of_neither = on_neither; stands = refl }) refl
    refl refl refl

-- a resumption of a value whose binding is ready is stuck, though it is well typed
stuck_judged : judge many_rows (count⇝unit ∷ []) [] (yield (executing 0 unit)) ≡ judged 0 2
unfolding judge
stuck_judged = refl

stuck_at_a_value : Stuck (yield (executing 0 unit)) (ready count⇝unit unit ∷ [])
stuck_at_a_value = record {
  label = 0;
  body = unit;
  of_result = on_result;
  of_yield = on_yield;
  of_neither = on_neither;
  last_is = refl;
  body_is = inl refl;
  row = count⇝unit;
  ready_body = unit;
  binding_ready = refl;
}
