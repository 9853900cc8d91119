-- Runs with calls and with recursion.
use Rattle.std.proofs.Common.{◌≡◌, ℕ, [], ◌∷◌, refl}
use Rattle.calculus.specs.Terms.{Term, unit, variable, abstraction, coroutine, application, yield, start, fix, atom, operation, instance, suspension}
use Rattle.calculus.specs.Judgement.{judged, judge}
use Rattle.calculus.specs.Configurations.{empty, ready, ◌∣◌}
use Rattle.calculus.specs.Next.{next}
use Rattle.calculus.proofs.ExamplesTables.{count→count, unit⇝count⇝unit, count⇝count⇝unit, count⇝unit, instance→count, counter→counter}
use Rattle.calculus.proofs.ExamplesTerms.{◌has◌yielding◌, judge_running, ◌steps_to◌, after, five, same_unit, same_count, waiting, on_yield, resume_once, executing, with_name}

-- A yield under three calls, of a function, a coroutine and a function: it climbs one level a step, and is caught by the resumption.
abbrev same_again : Term
same_again = coroutine 0 unit⇝count⇝unit (variable 0)

abbrev three_calls : Term → Term
three_calls t = application same_unit (application same_again (application same_unit t))

three_calls_judged : three_calls (yield five) has 0 yielding 2
unfolding judge
three_calls_judged = refl

three_calls_executing_judged : judge_running (executing 0 (three_calls (yield five))) ≡ judged 2 1
unfolding judge
three_calls_executing_judged = refl

yield_suspends_in_place :
    executing 0 (three_calls (yield five)) ∣ empty count⇝unit ∷ [] steps_to executing 0 (three_calls waiting) ∣ empty count⇝unit ∷ []
unfolding next
yield_suspends_in_place = refl

climbs_out_of_the_first :
    after 2 (executing 0 (three_calls (yield five)) ∣ empty count⇝unit ∷ []) ≡
    (executing 0 (application same_unit (application same_again (suspension (application same_unit unit) five))) ∣ empty count⇝unit ∷ [])
unfolding next
climbs_out_of_the_first = refl

climbs_out_of_the_second :
    after 3 (executing 0 (three_calls (yield five)) ∣ empty count⇝unit ∷ []) ≡
    (executing 0 (application same_unit (suspension (application same_again (application same_unit unit)) five)) ∣ empty count⇝unit ∷ [])
unfolding next
climbs_out_of_the_second = refl

climbs_out_of_the_third :
    after 4 (executing 0 (three_calls (yield five)) ∣ empty count⇝unit ∷ []) ≡
    (executing 0 (suspension (three_calls unit) five) ∣ empty count⇝unit ∷ [])
unfolding next
climbs_out_of_the_third = refl

is_caught :
    after 5 (executing 0 (three_calls (yield five)) ∣ empty count⇝unit ∷ []) ≡
    (application on_yield five ∣ ready count⇝unit (three_calls unit) ∷ [])
unfolding next
is_caught = refl

-- what is around the resumption does not move
around_it_stays :
    after 6 (yield (executing 0 (three_calls (yield five))) ∣ empty count⇝unit ∷ []) ≡
    (yield five ∣ ready count⇝unit (three_calls unit) ∷ [])
unfolding next
around_it_stays = refl

-- with no resumption around it, it climbs to the root and rests there
climbs_to_the_root : after 99 (three_calls (yield five) ∣ []) ≡ (suspension (three_calls unit) five ∣ [])
unfolding next
climbs_to_the_root = refl

-- A recursion that goes on: from a count on, it yields one count after the other.
abbrev upwards : Term
upwards =
    fix (abstraction 0 counter→counter
    (coroutine 1 count⇝count⇝unit (application
    (coroutine 2 unit⇝count⇝unit (application (variable 0) (operation 0 (variable 1) (atom 0 1)))) (yield (variable 1)))))

-- its instance, halted where it has yielded n
abbrev halted : ℕ → Term
halted n = application (coroutine 2 unit⇝count⇝unit (application upwards (operation 0 (atom 0 n) (atom 0 1)))) unit

abbrev resumed_thrice : Term
resumed_thrice =
    with_name 1 instance→count (start count⇝unit upwards five)
    (with_name 2 count→count (resume_once (variable 1)) (with_name 2 count→count (resume_once (variable 1)) (resume_once (variable 1))))

upwards_judged : upwards has count⇝count⇝unit yielding 1
unfolding judge
upwards_judged = refl

resumed_thrice_judged : resumed_thrice has 2 yielding 1
unfolding judge
resumed_thrice_judged = refl

resumed_thrice_ends : after 99 (resumed_thrice ∣ []) ≡ (atom 0 7 ∣ ready count⇝unit (halted 7) ∷ [])
unfolding next
resumed_thrice_ends = refl

-- each further resume makes the same nine steps, one count on
goes_on :
    after 9 (resume_once (instance 0 count⇝unit) ∣ ready count⇝unit (halted 7) ∷ []) ≡ (atom 0 8 ∣ ready count⇝unit (halted 8) ∷ [])
unfolding next
goes_on = refl

-- a fix whose step is itself has no end
always_the_same : fix same_count ∣ [] steps_to fix same_count ∣ []
unfolding next
always_the_same = refl
