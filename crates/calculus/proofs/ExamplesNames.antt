-- Replacement, and steps with names that are bound twice.
use Rattle.std.proofs.Common.{◌≡◌, [], refl}
use Rattle.calculus.specs.Terms.{unit, variable, abstraction, coroutine, application, yield, start, resume, snapshot, fix, atom, operation, instance, resumption, suspension}
use Rattle.calculus.specs.Replacement.{replace}
use Rattle.calculus.specs.Configurations.{◌∣◌}
use Rattle.calculus.specs.Next.{next}
use Rattle.calculus.proofs.ExamplesTables.{count→count, count→function}
use Rattle.calculus.proofs.ExamplesTerms.{◌steps_to◌, after, five}

-- Replacement: a binder of the same name is left untouched, and nothing is renamed, so that a free name can be caught.
same_name_untouched : replace 0 five (abstraction 0 4 (variable 0)) ≡ abstraction 0 4 (variable 0)
same_name_untouched = refl

same_name_of_a_coroutine_untouched : replace 0 five (coroutine 0 4 (variable 0)) ≡ coroutine 0 4 (variable 0)
same_name_of_a_coroutine_untouched = refl

other_name_replaced : replace 0 five (abstraction 1 4 (variable 0)) ≡ abstraction 1 4 five
other_name_replaced = refl

other_name_of_a_coroutine_replaced : replace 0 five (coroutine 1 4 (variable 0)) ≡ coroutine 1 4 five
other_name_of_a_coroutine_replaced = refl

other_variable_stays : replace 0 five (variable 1) ≡ variable 1
other_variable_stays = refl

beside_the_binder_replaced :
    replace 0 five (application (abstraction 0 4 (variable 0)) (variable 0)) ≡ application (abstraction 0 4 (variable 0)) five
beside_the_binder_replaced = refl

free_name_is_caught : replace 0 (variable 1) (abstraction 1 4 (variable 0)) ≡ abstraction 1 4 (variable 1)
free_name_is_caught = refl

inner_name_wins :
    after 2 (application (application (abstraction 0 count→function (abstraction 0 count→count (variable 0))) (atom 0 1)) (atom 0 2) ∣ []) ≡
    (atom 0 2 ∣ [])
unfolding next
inner_name_wins = refl

outer_name_is_seen :
    after 2 (application (application (abstraction 0 count→function (abstraction 1 count→count (variable 0))) (atom 0 1)) (atom 0 2) ∣ []) ≡
    (atom 0 1 ∣ [])
unfolding next
outer_name_is_seen = refl

fix_leaves_the_same_name : fix (abstraction 0 4 (abstraction 0 4 (variable 0))) ∣ [] steps_to abstraction 0 4 (variable 0) ∣ []
unfolding next
fix_leaves_the_same_name = refl

-- in every evaluated part, and in the handlers of a resumption and the suspended term
replaced_in_application : replace 0 five (application (variable 0) (variable 0)) ≡ application five five
replaced_in_application = refl

replaced_in_yield : replace 0 five (yield (variable 0)) ≡ yield five
replaced_in_yield = refl

replaced_in_start : replace 0 five (start 9 (variable 0) (variable 0)) ≡ start 9 five five
replaced_in_start = refl

replaced_in_resume : replace 0 five (resume (variable 0) (variable 0) (variable 0) (variable 0)) ≡ resume five five five five
replaced_in_resume = refl

replaced_in_snapshot : replace 0 five (snapshot (variable 0)) ≡ snapshot five
replaced_in_snapshot = refl

replaced_in_fix : replace 0 five (fix (variable 0)) ≡ fix five
replaced_in_fix = refl

replaced_in_operation : replace 0 five (operation 1 (variable 0) (variable 0)) ≡ operation 1 five five
replaced_in_operation = refl

replaced_in_resumption :
    replace 0 five (resumption 0 (variable 0) (variable 0) (variable 0) (variable 0)) ≡ resumption 0 five five five five
replaced_in_resumption = refl

replaced_in_suspension : replace 0 five (suspension (variable 0) (variable 0)) ≡ suspension five five
replaced_in_suspension = refl

-- a label, a row, a base, a payload or an operation of the same number is no name
numbers_stay : replace 0 five (operation 0 (atom 0 0) (instance 0 0)) ≡ operation 0 (atom 0 0) (instance 0 0)
numbers_stay = refl

unit_stays : replace 0 five unit ≡ unit
unit_stays = refl
