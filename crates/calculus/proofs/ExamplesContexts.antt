-- Steps of a part, and suspensions that move out.
use Rattle.std.proofs.Common.{[], ◌∷◌, refl}
use Rattle.calculus.specs.Terms.{unit, application, yield, start, resume, snapshot, fix, operation, instance, resumption, suspension}
use Rattle.calculus.specs.Configurations.{empty, ready, ◌∣◌}
use Rattle.calculus.specs.Next.{next}
use Rattle.calculus.proofs.ExamplesTerms.{◌steps_to◌, five, silent, sum, waiting}

-- an evaluated part makes a step; on the left before on the right
applied_part_goes : application sum sum ∣ [] steps_to application five sum ∣ []
unfolding next
applied_part_goes = refl

argument_goes : application five sum ∣ [] steps_to application five five ∣ []
unfolding next
argument_goes = refl

offered_part_goes : yield sum ∣ [] steps_to yield five ∣ []
unfolding next
offered_part_goes = refl

started_part_goes : start 9 sum sum ∣ [] steps_to start 9 five sum ∣ []
unfolding next
started_part_goes = refl

start_argument_goes : start 9 five sum ∣ [] steps_to start 9 five five ∣ []
unfolding next
start_argument_goes = refl

resumed_part_goes : resume sum sum sum sum ∣ [] steps_to resume five sum sum sum ∣ []
unfolding next
resumed_part_goes = refl

first_handler_goes : resume five sum sum sum ∣ [] steps_to resume five five sum sum ∣ []
unfolding next
first_handler_goes = refl

second_handler_goes : resume five five sum sum ∣ [] steps_to resume five five five sum ∣ []
unfolding next
second_handler_goes = refl

third_handler_goes : resume five five five sum ∣ [] steps_to resume five five five five ∣ []
unfolding next
third_handler_goes = refl

copied_part_goes : snapshot sum ∣ [] steps_to snapshot five ∣ []
unfolding next
copied_part_goes = refl

fixed_part_goes : fix sum ∣ [] steps_to fix five ∣ []
unfolding next
fixed_part_goes = refl

first_operand_goes : operation 0 sum sum ∣ [] steps_to operation 0 five sum ∣ []
unfolding next
first_operand_goes = refl

second_operand_goes : operation 0 five sum ∣ [] steps_to operation 0 five five ∣ []
unfolding next
second_operand_goes = refl

executing_body_goes : resumption 0 sum unit unit unit ∣ empty 9 ∷ [] steps_to resumption 0 five unit unit unit ∣ empty 9 ∷ []
unfolding next
executing_body_goes = refl

-- a step of a part may change the bindings
part_starts : yield (start 9 silent unit) ∣ [] steps_to yield (instance 0 9) ∣ ready 9 unit ∷ []
unfolding next
part_starts = refl

-- two levels down
inner_part_goes : yield (application unit (yield sum)) ∣ [] steps_to yield (application unit (yield five)) ∣ []
unfolding next
inner_part_goes = refl

-- a suspension moves out one level, though a part on its right could make a step
pause_out_of_applied_part : application waiting sum ∣ [] steps_to suspension (application unit sum) five ∣ []
unfolding next
pause_out_of_applied_part = refl

pause_out_of_argument : application five waiting ∣ [] steps_to suspension (application five unit) five ∣ []
unfolding next
pause_out_of_argument = refl

pause_out_of_yield : yield waiting ∣ [] steps_to suspension (yield unit) five ∣ []
unfolding next
pause_out_of_yield = refl

pause_out_of_started_part : start 9 waiting sum ∣ [] steps_to suspension (start 9 unit sum) five ∣ []
unfolding next
pause_out_of_started_part = refl

pause_out_of_start_argument : start 9 five waiting ∣ [] steps_to suspension (start 9 five unit) five ∣ []
unfolding next
pause_out_of_start_argument = refl

pause_out_of_resumed_part : resume waiting sum sum sum ∣ [] steps_to suspension (resume unit sum sum sum) five ∣ []
unfolding next
pause_out_of_resumed_part = refl

pause_out_of_first_handler : resume five waiting sum sum ∣ [] steps_to suspension (resume five unit sum sum) five ∣ []
unfolding next
pause_out_of_first_handler = refl

pause_out_of_second_handler : resume five five waiting sum ∣ [] steps_to suspension (resume five five unit sum) five ∣ []
unfolding next
pause_out_of_second_handler = refl

pause_out_of_third_handler : resume five five five waiting ∣ [] steps_to suspension (resume five five five unit) five ∣ []
unfolding next
pause_out_of_third_handler = refl

pause_out_of_snapshot : snapshot waiting ∣ [] steps_to suspension (snapshot unit) five ∣ []
unfolding next
pause_out_of_snapshot = refl

pause_out_of_fix : fix waiting ∣ [] steps_to suspension (fix unit) five ∣ []
unfolding next
pause_out_of_fix = refl

pause_out_of_first_operand : operation 0 waiting sum ∣ [] steps_to suspension (operation 0 unit sum) five ∣ []
unfolding next
pause_out_of_first_operand = refl

pause_out_of_second_operand : operation 0 five waiting ∣ [] steps_to suspension (operation 0 five unit) five ∣ []
unfolding next
pause_out_of_second_operand = refl

-- of two suspensions the left one moves
left_suspension_moves :
    application waiting (suspension unit unit) ∣ [] steps_to suspension (application unit (suspension unit unit)) five ∣ []
unfolding next
left_suspension_moves = refl

-- a step on the left comes before a suspension on the right
left_part_before_suspension : application sum waiting ∣ [] steps_to application five waiting ∣ []
unfolding next
left_part_before_suspension = refl
