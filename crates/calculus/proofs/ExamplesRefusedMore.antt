-- Resumes, atoms and running terms that the judgement refuses.
use Rattle.std.proofs.Common.{◌≡◌, [], ◌∷◌, None, refl}
use Rattle.calculus.specs.Terms.{unit, abstraction, coroutine, yield, resume, atom, operation, instance, resumption, suspension}
use Rattle.calculus.specs.Judgement.{judge}
use Rattle.calculus.proofs.ExamplesTables.{unit→count, unit⇝count⇝unit, unit⇝truth⇝count, count⇝unit, truth⇝count, of_count, of_truth, of_unit, silent_of_count, silent_of_truth, silent_of_unit, short_of_count, short_of_truth, short_of_unit, count→function, truth→function, unit→function, to_instance, to_of_count, to_of_truth, to_of_unit, many_rows, conditions, too_few_bases}
use Rattle.calculus.proofs.ExamplesTerms.{judge_running, Refused, once_yielded, five, true_value, same_unit, same_count, yields_five, handler, body, new_instance, with_handlers, executing_with_handlers}

-- resume: what is resumed, then the handlers' arguments, yield types and results, then what the parts yield
resume_of_unit : Refused (with_handlers unit)
unfolding judge
resume_of_unit = refl

resume_of_a_coroutine : Refused (with_handlers yields_five)
unfolding judge
resume_of_a_coroutine = refl

first_handler_from_another_type : Refused (resume new_instance (handler of_truth) (handler of_truth) (handler of_unit))
unfolding judge
first_handler_from_another_type = refl

second_handler_from_another_type : Refused (resume new_instance (handler of_count) (handler of_count) (handler of_unit))
unfolding judge
second_handler_from_another_type = refl

third_handler_from_another_type : Refused (resume new_instance (handler of_count) (handler of_truth) (handler of_count))
unfolding judge
third_handler_from_another_type = refl

first_handler_of_another_yield : Refused (resume new_instance (handler silent_of_count) (handler of_truth) (handler of_unit))
unfolding judge
first_handler_of_another_yield = refl

second_handler_of_another_yield : Refused (resume new_instance (handler of_count) (handler silent_of_truth) (handler of_unit))
unfolding judge
second_handler_of_another_yield = refl

third_handler_of_another_yield : Refused (resume new_instance (handler of_count) (handler of_truth) (handler silent_of_unit))
unfolding judge
third_handler_of_another_yield = refl

first_handler_of_another_result : Refused (resume new_instance (coroutine 0 short_of_count unit) (handler of_truth) (handler of_unit))
unfolding judge
first_handler_of_another_result = refl

second_handler_of_another_result : Refused (resume new_instance (handler of_count) (coroutine 0 short_of_truth unit) (handler of_unit))
unfolding judge
second_handler_of_another_result = refl

third_handler_of_another_result : Refused (resume new_instance (handler of_count) (handler of_truth) (coroutine 0 short_of_unit unit))
unfolding judge
third_handler_of_another_result = refl

first_handler_a_function : Refused (resume new_instance (abstraction 0 count→function same_count) (handler of_truth) (handler of_unit))
unfolding judge
first_handler_a_function = refl

second_handler_a_function : Refused (resume new_instance (handler of_count) (abstraction 0 truth→function same_count) (handler of_unit))
unfolding judge
second_handler_a_function = refl

third_handler_a_function : Refused (resume new_instance (handler of_count) (handler of_truth) (abstraction 0 unit→function same_count))
unfolding judge
third_handler_a_function = refl

resumed_part_yields_another : Refused (with_handlers (once_yielded to_instance five new_instance))
unfolding judge
resumed_part_yields_another = refl

first_handler_yields_another :
    Refused (resume new_instance (once_yielded to_of_count five (handler of_count)) (handler of_truth) (handler of_unit))
unfolding judge
first_handler_yields_another = refl

second_handler_yields_another :
    Refused (resume new_instance (handler of_count) (once_yielded to_of_truth five (handler of_truth)) (handler of_unit))
unfolding judge
second_handler_yields_another = refl

third_handler_yields_another :
    Refused (resume new_instance (handler of_count) (handler of_truth) (once_yielded to_of_unit five (handler of_unit)))
unfolding judge
third_handler_yields_another = refl

-- where the handlers are silent, no part yields
resumed_part_yields_under_silent_handlers :
    Refused (resume (once_yielded to_instance same_unit new_instance) (handler silent_of_count) (handler silent_of_truth)
    (handler silent_of_unit))
unfolding judge
resumed_part_yields_under_silent_handlers = refl

-- the instance's own yield type is not that of its resume
resumed_part_yields_the_instances : Refused (with_handlers (once_yielded to_instance true_value new_instance))
unfolding judge
resumed_part_yields_the_instances = refl

resumed_part_yields_the_instances_under_silent_handlers :
    Refused (resume (once_yielded to_instance true_value new_instance) (handler silent_of_count) (handler silent_of_truth)
    (handler silent_of_unit))
unfolding judge
resumed_part_yields_the_instances_under_silent_handlers = refl

-- atoms and operations
count_too_large : Refused (atom 0 65536)
unfolding judge
count_too_large = refl

truth_value_too_large : Refused (atom 1 2)
unfolding judge
truth_value_too_large = refl

base_not_of_the_set : Refused (atom 2 0)
unfolding judge
base_not_of_the_set = refl

condition_too_large : judge conditions [] [] (atom 0 4) ≡ None
unfolding judge
condition_too_large = refl

base_not_of_the_conditions : judge conditions [] [] (atom 1 0) ≡ None
unfolding judge
base_not_of_the_conditions = refl

-- though this set says that base 1 holds the payload, base 1 is none of its bases
base_from_the_number_of_bases_on : judge (record { table = many_rows.table; set = too_few_bases }) [] [] true_value ≡ None
unfolding judge
base_from_the_number_of_bases_on = refl

first_operand_of_another_base : Refused (operation 0 true_value five)
unfolding judge
first_operand_of_another_base = refl

second_operand_of_another_base : Refused (operation 0 five true_value)
unfolding judge
second_operand_of_another_base = refl

operand_no_atom : Refused (operation 0 five unit)
unfolding judge
operand_no_atom = refl

operands_of_two_yields : Refused (operation 0 body (once_yielded unit→count five five))
unfolding judge
operands_of_two_yields = refl

no_such_operation : Refused (operation 4 five five)
unfolding judge
no_such_operation = refl

-- running terms, where binding 0 has the row of counts, binding 1 that of truth values
instance_of_another_row : judge_running (instance 0 truth⇝count) ≡ None
unfolding judge
instance_of_another_row = refl

instance_without_a_binding : judge_running (instance 2 count⇝unit) ≡ None
unfolding judge
instance_without_a_binding = refl

instance_of_no_instance_row : judge many_rows (unit⇝count⇝unit ∷ []) [] (instance 0 unit⇝count⇝unit) ≡ None
unfolding judge
instance_of_no_instance_row = refl

resumption_without_a_binding : judge_running (executing_with_handlers 2 body) ≡ None
unfolding judge
resumption_without_a_binding = refl

resumption_of_no_instance_row : judge many_rows (unit⇝truth⇝count ∷ []) [] (executing_with_handlers 0 body) ≡ None
unfolding judge
resumption_of_no_instance_row = refl

resumption_of_another_binding : judge_running (executing_with_handlers 0 body) ≡ None
unfolding judge
resumption_of_another_binding = refl

resumption_body_of_another_type : judge_running (executing_with_handlers 1 unit) ≡ None
unfolding judge
resumption_body_of_another_type = refl

resumption_body_of_another_yield : judge_running (executing_with_handlers 1 (once_yielded unit→count five five)) ≡ None
unfolding judge
resumption_body_of_another_yield = refl

resumption_body_of_the_handlers_yield : judge_running (executing_with_handlers 1 (once_yielded unit→count same_unit five)) ≡ None
unfolding judge
resumption_body_of_the_handlers_yield = refl

resumption_handler_from_another_type : judge_running (resumption 1 body (handler of_truth) (handler of_truth) (handler of_unit)) ≡ None
unfolding judge
resumption_handler_from_another_type = refl

resumption_handler_of_another_yield :
    judge_running (resumption 1 body (handler of_count) (handler silent_of_truth) (handler of_unit)) ≡ None
unfolding judge
resumption_handler_of_another_yield = refl

resumption_handler_of_another_result :
    judge_running (resumption 1 body (handler of_count) (handler of_truth) (coroutine 0 short_of_unit unit)) ≡ None
unfolding judge
resumption_handler_of_another_result = refl

suspended_term_yields_another : Refused (suspension (yield five) true_value)
unfolding judge
suspended_term_yields_another = refl

pending_no_value : Refused (suspension unit (operation 0 five five))
unfolding judge
pending_no_value = refl

pending_without_a_type : Refused (suspension unit (atom 0 65536))
unfolding judge
pending_without_a_type = refl
