-- Runs with several instances.
use Rattle.std.proofs.Common.{◌≡◌, [], ◌∷◌, refl}
use Rattle.calculus.specs.Terms.{Term, unit, variable, coroutine, application, yield, start, resume, snapshot, atom, operation, instance, resumption, suspension}
use Rattle.calculus.specs.Judgement.{judge}
use Rattle.calculus.specs.Configurations.{empty, ready, ◌∣◌}
use Rattle.calculus.specs.Next.{next}
use Rattle.calculus.proofs.ExamplesTables.{count→count, unit⇝count⇝unit, count⇝count⇝unit, count⇝unit, instance→count}
use Rattle.calculus.proofs.ExamplesTerms.{◌has◌yielding◌, ◌steps_to◌, after, yields_five, waiting, on_neither, resume_once, executing, with_name}

-- An instance resumes another: what the inner one yields, the outer one yields with 1 added.
abbrev ends : Term
ends = coroutine 0 unit⇝count⇝unit unit

abbrev adds_one : Term
adds_one = coroutine 0 count⇝count⇝unit (yield (operation 0 (variable 0) (atom 0 1)))

abbrev nested : Term
nested = resume_once (start count⇝unit (coroutine 0 unit⇝count⇝unit (resume (start count⇝unit yields_five unit) ends adds_one ends)) unit)

nested_judged : nested has 2 yielding 1
unfolding judge
nested_judged = refl

nested_both_execute :
    after 5 (nested ∣ []) ≡ (executing 0 (resumption 1 waiting ends adds_one ends) ∣ empty count⇝unit ∷ empty count⇝unit ∷ [])
unfolding next
nested_both_execute = refl

nested_inner_captured :
    after 9 (nested ∣ []) ≡ (executing 0 (suspension unit (atom 0 6)) ∣ empty count⇝unit ∷ ready count⇝unit unit ∷ [])
unfolding next
nested_inner_captured = refl

nested_ends : after 11 (nested ∣ []) ≡ (atom 0 6 ∣ ready count⇝unit unit ∷ ready count⇝unit unit ∷ [])
unfolding next
nested_ends = refl

nested_rests : after 99 (nested ∣ []) ≡ after 11 (nested ∣ [])
unfolding next
nested_rests = refl

-- An instance that resumes itself takes the fourth part, and goes on with its own body.
itself_takes_the_fourth_part :
    executing 0 (resume_once (instance 0 count⇝unit)) ∣ empty count⇝unit ∷ [] steps_to
    executing 0 (application on_neither unit) ∣ empty count⇝unit ∷ []
unfolding next
itself_takes_the_fourth_part = refl

itself_ends : after 4 (executing 0 (resume_once (instance 0 count⇝unit)) ∣ empty count⇝unit ∷ []) ≡ (atom 0 100 ∣ empty count⇝unit ∷ [])
unfolding next
itself_ends = refl

-- the same through another instance, which the first one resumes
first_of_two_takes_the_fourth_part :
    executing 0 (executing 1 (resume_once (instance 0 count⇝unit))) ∣ empty count⇝unit ∷ empty count⇝unit ∷ [] steps_to
    executing 0 (executing 1 (application on_neither unit)) ∣ empty count⇝unit ∷ empty count⇝unit ∷ []
unfolding next
first_of_two_takes_the_fourth_part = refl

-- An instance is resumed to its end, and once more: its result, then neither.
abbrev resumed_again : Term
resumed_again =
    with_name 1 instance→count (start count⇝unit (coroutine 0 unit⇝count⇝unit unit) unit)
    (with_name 2 count→count (resume_once (variable 1)) (operation 0 (variable 2) (resume_once (variable 1))))

resumed_again_judged : resumed_again has 2 yielding 1
unfolding judge
resumed_again_judged = refl

resumed_again_ends : after 9 (resumed_again ∣ []) ≡ (atom 0 400 ∣ empty count⇝unit ∷ [])
unfolding next
resumed_again_ends = refl

-- An instance yields 1, then 2, then 3. A copy is made after the first; the original goes on to 3, and the copy then yields 2.
abbrev one_two_three : Term
one_two_three =
    application (coroutine 2 unit⇝count⇝unit (yield (atom 0 3)))
    (application (coroutine 2 unit⇝count⇝unit (yield (atom 0 2))) (yield (atom 0 1)))

abbrev copy_goes_back : Term
copy_goes_back =
    with_name 1 instance→count (start count⇝unit (coroutine 0 unit⇝count⇝unit one_two_three) unit)
    (with_name 2 count→count (resume_once (variable 1))
    (with_name 3 instance→count (snapshot (variable 1))
    (with_name 2 count→count (resume_once (variable 1))
    (with_name 2 count→count (resume_once (variable 1)) (operation 0 (variable 2) (resume_once (variable 3)))))))

copy_goes_back_judged : copy_goes_back has 2 yielding 1
unfolding judge
copy_goes_back_judged = refl

copy_goes_back_ends :
    after 99 (copy_goes_back ∣ []) ≡
    (atom 0 5 ∣ ready count⇝unit unit ∷ ready count⇝unit (application (coroutine 2 unit⇝count⇝unit (yield (atom 0 3))) unit) ∷ [])
unfolding next
copy_goes_back_ends = refl
