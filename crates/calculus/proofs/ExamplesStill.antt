-- Configurations that make no step.
use Rattle.std.proofs.Common.{◌≡◌, [], ◌∷◌, None, refl}
use Rattle.quantities.specs.Interlocks.{interlocks}
use Rattle.calculus.specs.Terms.{unit, variable, abstraction, coroutine, application, start, resume, snapshot, fix, atom, operation, instance, resumption, suspension}
use Rattle.calculus.specs.Configurations.{empty, ready, ◌∣◌}
use Rattle.calculus.specs.Next.{next}
use Rattle.calculus.proofs.ExamplesTerms.{Stays, five, same_unit, silent, sum, waiting}

-- values, a suspension at the root, and a variable
unit_rests : Stays (unit ∣ [])
unfolding next
unit_rests = refl

abstraction_rests : Stays (abstraction 0 4 sum ∣ [])
unfolding next
abstraction_rests = refl

coroutine_rests : Stays (coroutine 0 4 sum ∣ [])
unfolding next
coroutine_rests = refl

atom_rests : Stays (five ∣ [])
unfolding next
atom_rests = refl

instance_rests : Stays (instance 0 9 ∣ ready 9 sum ∷ [])
unfolding next
instance_rests = refl

suspension_rests : Stays (suspension sum five ∣ [])
unfolding next
suspension_rests = refl

variable_is_stuck : Stays (variable 0 ∣ [])
unfolding next
variable_is_stuck = refl

-- a part that is stuck holds up those on its right
stuck_on_the_left : Stays (application (variable 0) sum ∣ [])
unfolding next
stuck_on_the_left = refl

stuck_in_a_resumption : Stays (resumption 0 (variable 0) unit unit unit ∣ empty 9 ∷ [])
unfolding next
stuck_in_a_resumption = refl

-- no pause out of a resumption: capture needs an empty binding, and so does terminate
no_capture_on_ready : Stays (resumption 0 waiting unit unit unit ∣ ready 9 sum ∷ [])
unfolding next
no_capture_on_ready = refl

no_capture_without_binding : Stays (resumption 0 waiting unit unit unit ∣ [])
unfolding next
no_capture_without_binding = refl

no_terminate_on_ready : Stays (resumption 0 five unit unit unit ∣ ready 9 sum ∷ [])
unfolding next
no_terminate_on_ready = refl

no_terminate_without_binding : Stays (resumption 0 five unit unit unit ∣ [])
unfolding next
no_terminate_without_binding = refl

-- another label's binding does not count
no_capture_on_another_label : Stays (resumption 1 waiting unit unit unit ∣ empty 9 ∷ ready 9 sum ∷ [])
unfolding next
no_capture_on_another_label = refl

-- parts of another kind
no_application_of_an_atom : Stays (application five unit ∣ [])
unfolding next
no_application_of_an_atom = refl

no_application_of_unit : Stays (application unit unit ∣ [])
unfolding next
no_application_of_unit = refl

no_application_of_an_instance : Stays (application (instance 0 9) unit ∣ ready 9 sum ∷ [])
unfolding next
no_application_of_an_instance = refl

no_start_of_an_abstraction : Stays (start 9 same_unit unit ∣ [])
unfolding next
no_start_of_an_abstraction = refl

no_resume_of_unit : Stays (resume unit unit unit unit ∣ [])
unfolding next
no_resume_of_unit = refl

no_resume_without_binding : Stays (resume (instance 1 9) unit unit unit ∣ ready 9 sum ∷ [])
unfolding next
no_resume_without_binding = refl

no_snapshot_of_unit : Stays (snapshot unit ∣ [])
unfolding next
no_snapshot_of_unit = refl

no_snapshot_without_binding : Stays (snapshot (instance 1 9) ∣ ready 9 sum ∷ [])
unfolding next
no_snapshot_without_binding = refl

no_fix_of_a_coroutine : Stays (fix silent ∣ [])
unfolding next
no_fix_of_a_coroutine = refl

-- operations on what their signature does not take
no_operation_on_another_first_base : Stays (operation 0 (atom 1 1) (atom 0 1) ∣ [])
unfolding next
no_operation_on_another_first_base = refl

no_operation_on_another_second_base : Stays (operation 0 (atom 0 1) (atom 1 1) ∣ [])
unfolding next
no_operation_on_another_second_base = refl

no_and_of_counts : Stays (operation 3 (atom 0 1) (atom 0 1) ∣ [])
unfolding next
no_and_of_counts = refl

no_operation_on_a_large_first_count : Stays (operation 0 (atom 0 65536) (atom 0 1) ∣ [])
unfolding next
no_operation_on_a_large_first_count = refl

no_operation_on_a_large_second_count : Stays (operation 0 (atom 0 1) (atom 0 65536) ∣ [])
unfolding next
no_operation_on_a_large_second_count = refl

no_operation_without_signature : Stays (operation 4 five five ∣ [])
unfolding next
no_operation_without_signature = refl

no_operation_on_unit : Stays (operation 0 unit five ∣ [])
unfolding next
no_operation_on_unit = refl

no_operation_with_unit : Stays (operation 0 five unit ∣ [])
unfolding next
no_operation_with_unit = refl

no_third_operation_of_interlocks : next interlocks (operation 2 (atom 0 1) (atom 0 1)) [] ≡ None
unfolding next
no_third_operation_of_interlocks = refl
