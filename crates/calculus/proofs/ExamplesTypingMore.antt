-- Resumes, atoms and running terms that the judgement accepts.
use Rattle.std.proofs.Common.{◌≡◌, [], refl}
use Rattle.calculus.specs.Terms.{unit, variable, abstraction, resume, snapshot, fix, atom, operation, instance, suspension}
use Rattle.calculus.specs.Judgement.{judged, judge}
use Rattle.calculus.proofs.ExamplesTables.{unit→unit, unit→count, count→count, unit⇝count⇝unit, count⇝unit, truth⇝count, of_count, of_truth, of_unit, silent_of_count, silent_of_truth, silent_of_unit, to_instance, to_of_count, to_of_truth, to_of_unit, coroutine→coroutine, conditions}
use Rattle.calculus.proofs.ExamplesTerms.{◌has◌yielding◌, judge_running, once_yielded, five, true_value, same_unit, same_count, handler, body, new_instance, with_handlers, executing_with_handlers}

-- resume: the handlers' result and yield type; each part may have that yield type
resume_judged : with_handlers new_instance has count→count yielding unit→unit
unfolding judge
resume_judged = refl

resumed_part_yields : with_handlers (once_yielded to_instance same_unit new_instance) has count→count yielding unit→unit
unfolding judge
resumed_part_yields = refl

first_handler_yields :
    resume new_instance (once_yielded to_of_count same_unit (handler of_count)) (handler of_truth) (handler of_unit) has
    count→count yielding unit→unit
unfolding judge
first_handler_yields = refl

second_handler_yields :
    resume new_instance (handler of_count) (once_yielded to_of_truth same_unit (handler of_truth)) (handler of_unit) has
    count→count yielding unit→unit
unfolding judge
second_handler_yields = refl

third_handler_yields :
    resume new_instance (handler of_count) (handler of_truth) (once_yielded to_of_unit same_unit (handler of_unit)) has
    count→count yielding unit→unit
unfolding judge
third_handler_yields = refl

silent_handlers_judged :
    resume new_instance (handler silent_of_count) (handler silent_of_truth) (handler silent_of_unit) has count→count yielding 1
unfolding judge
silent_handlers_judged = refl

-- snapshot and fix
snapshot_judged : snapshot new_instance has truth⇝count yielding 1
unfolding judge
snapshot_judged = refl

snapshot_of_what_yields : snapshot (once_yielded to_instance five new_instance) has truth⇝count yielding 2
unfolding judge
snapshot_of_what_yields = refl

fix_judged : fix same_count has 2 yielding 1
unfolding judge
fix_judged = refl

fix_of_a_function_of_coroutines : fix (abstraction 0 coroutine→coroutine (variable 0)) has unit⇝count⇝unit yielding 1
unfolding judge
fix_of_a_function_of_coroutines = refl

-- atoms and operations
count_judged : atom 0 65535 has 2 yielding 1
unfolding judge
count_judged = refl

truth_value_judged : atom 1 1 has 3 yielding 1
unfolding judge
truth_value_judged = refl

condition_judged : judge conditions [] [] (atom 0 3) ≡ judged 2 1
unfolding judge
condition_judged = refl

sum_judged : operation 0 five five has 2 yielding 1
unfolding judge
sum_judged = refl

difference_judged : operation 1 five five has 2 yielding 1
unfolding judge
difference_judged = refl

comparison_judged : operation 2 five five has 3 yielding 1
unfolding judge
comparison_judged = refl

and_judged : operation 3 true_value true_value has 3 yielding 1
unfolding judge
and_judged = refl

first_operand_yields : operation 0 (once_yielded unit→count true_value five) five has 2 yielding 3
unfolding judge
first_operand_yields = refl

second_operand_yields : operation 0 five (once_yielded unit→count true_value five) has 2 yielding 3
unfolding judge
second_operand_yields = refl

both_operands_yield : operation 0 (once_yielded unit→count true_value five) (once_yielded unit→count true_value five) has 2 yielding 3
unfolding judge
both_operands_yield = refl

-- running terms, where binding 0 has the row of counts, binding 1 that of truth values
instance_judged : judge_running (instance 0 count⇝unit) ≡ judged count⇝unit 1
unfolding judge
instance_judged = refl

later_instance_judged : judge_running (instance 1 truth⇝count) ≡ judged truth⇝count 1
unfolding judge
later_instance_judged = refl

resumption_judged : judge_running (executing_with_handlers 1 body) ≡ judged count→count unit→unit
unfolding judge
resumption_judged = refl

resumption_body_need_not_yield : judge_running (executing_with_handlers 1 five) ≡ judged count→count unit→unit
unfolding judge
resumption_body_need_not_yield = refl

resumption_of_a_suspension : judge_running (executing_with_handlers 1 (suspension five true_value)) ≡ judged count→count unit→unit
unfolding judge
resumption_of_a_suspension = refl

suspension_judged : suspension unit five has 0 yielding 2
unfolding judge
suspension_judged = refl

suspension_has_its_terms_type : suspension true_value five has 3 yielding 2
unfolding judge
suspension_has_its_terms_type = refl

suspended_term_yields : suspension (once_yielded unit→count true_value five) true_value has 2 yielding 3
unfolding judge
suspended_term_yields = refl
