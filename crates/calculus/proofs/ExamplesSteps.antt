-- A step by each other line.
use Rattle.std.proofs.Common.{◌≡◌, [], ◌∷◌, Some, refl}
use Rattle.quantities.specs.Interlocks.{interlocks}
use Rattle.calculus.specs.Terms.{unit, variable, abstraction, coroutine, application, yield, start, resume, snapshot, fix, atom, operation, instance, resumption, suspension}
use Rattle.calculus.specs.Configurations.{empty, ready, Bindings, ◌∣◌}
use Rattle.calculus.specs.Next.{next}
use Rattle.calculus.proofs.ExamplesTerms.{◌steps_to◌, five, sum, waiting, on_result, on_yield, on_neither}

-- bindings in which 0 is ready and 1 is empty
abbrev both : Bindings
both = ready 7 sum ∷ empty 8 ∷ []

-- application, fix and yield
abstraction_applied :
    application (abstraction 0 4 (operation 0 (variable 0) (variable 1))) five ∣ both steps_to operation 0 five (variable 1) ∣ both
unfolding next
abstraction_applied = refl

coroutine_applied : application (coroutine 0 4 (yield (variable 0))) five ∣ both steps_to yield five ∣ both
unfolding next
coroutine_applied = refl

fix_unfolds :
    fix (abstraction 0 4 (application (variable 0) unit)) ∣ both steps_to
    application (fix (abstraction 0 4 (application (variable 0) unit))) unit ∣ both
unfolding next
fix_unfolds = refl

yield_suspends : yield five ∣ both steps_to suspension unit five ∣ both
unfolding next
yield_suspends = refl

-- start: the label is the number of bindings before, the row is the start's
first_start : start 9 (coroutine 0 4 (yield (variable 0))) five ∣ [] steps_to instance 0 9 ∣ ready 9 (yield five) ∷ []
unfolding next
first_start = refl

later_start :
    start 9 (coroutine 0 4 (yield (variable 0))) five ∣ both steps_to instance 2 9 ∣ ready 7 sum ∷ empty 8 ∷ ready 9 (yield five) ∷ []
unfolding next
later_start = refl

-- resume, by the binding of the label; the instance's row does not matter
resume_of_ready :
    resume (instance 0 9) on_result on_yield on_neither ∣ both steps_to
    resumption 0 sum on_result on_yield on_neither ∣ empty 7 ∷ empty 8 ∷ []
unfolding next
resume_of_ready = refl

resume_of_empty : resume (instance 1 9) on_result on_yield on_neither ∣ both steps_to application on_neither unit ∣ both
unfolding next
resume_of_empty = refl

-- capture: the third part on what is offered, and the binding is ready; terminate: the second part on the value, and it stays empty
suspension_captured :
    resumption 1 (suspension sum five) on_result on_yield on_neither ∣ both steps_to
    application on_yield five ∣ ready 7 sum ∷ ready 8 sum ∷ []
unfolding next
suspension_captured = refl

instance_terminates : resumption 1 five on_result on_yield on_neither ∣ both steps_to application on_result five ∣ both
unfolding next
instance_terminates = refl

inner_resumption_captured :
    resumption 0 (resumption 1 waiting on_result on_yield on_neither) unit unit unit ∣ empty 7 ∷ empty 8 ∷ [] steps_to
    resumption 0 (application on_yield five) unit unit unit ∣ empty 7 ∷ ready 8 unit ∷ []
unfolding next
inner_resumption_captured = refl

-- snapshot: a copy of the binding, with the binding's row
snapshot_of_ready : snapshot (instance 0 9) ∣ both steps_to instance 2 7 ∣ ready 7 sum ∷ empty 8 ∷ ready 7 sum ∷ []
unfolding next
snapshot_of_ready = refl

snapshot_of_completed : snapshot (instance 1 9) ∣ both steps_to instance 2 8 ∣ ready 7 sum ∷ empty 8 ∷ empty 8 ∷ []
unfolding next
snapshot_of_completed = refl

snapshot_of_executing :
    resumption 1 (snapshot (instance 1 8)) unit unit unit ∣ both steps_to
    resumption 1 (instance 2 8) unit unit unit ∣ ready 7 sum ∷ empty 8 ∷ empty 8 ∷ []
unfolding next
snapshot_of_executing = refl

-- operations of counts
counts_added : operation 0 (atom 0 2) (atom 0 3) ∣ both steps_to atom 0 5 ∣ both
unfolding next
counts_added = refl

counts_wrap : operation 0 (atom 0 65535) (atom 0 3) ∣ [] steps_to atom 0 2 ∣ []
unfolding next
counts_wrap = refl

counts_subtracted : operation 1 (atom 0 7) (atom 0 2) ∣ [] steps_to atom 0 5 ∣ []
unfolding next
counts_subtracted = refl

subtraction_stops_at_zero : operation 1 (atom 0 2) (atom 0 7) ∣ [] steps_to atom 0 0 ∣ []
unfolding next
subtraction_stops_at_zero = refl

at_least_when_equal : operation 2 (atom 0 7) (atom 0 7) ∣ [] steps_to atom 1 1 ∣ []
unfolding next
at_least_when_equal = refl

not_at_least : operation 2 (atom 0 6) (atom 0 7) ∣ [] steps_to atom 1 0 ∣ []
unfolding next
not_at_least = refl

one_and_one : operation 3 (atom 1 1) (atom 1 1) ∣ [] steps_to atom 1 1 ∣ []
unfolding next
one_and_one = refl

one_and_zero : operation 3 (atom 1 1) (atom 1 0) ∣ [] steps_to atom 1 0 ∣ []
unfolding next
one_and_zero = refl

-- operations of interlocks
larger_condition : next interlocks (operation 0 (atom 0 1) (atom 0 2)) [] ≡ Some (atom 0 2 ∣ [])
unfolding next
larger_condition = refl

run_after_stop_holds : next interlocks (operation 1 (atom 0 2) (atom 0 0)) [] ≡ Some (atom 0 1 ∣ [])
unfolding next
run_after_stop_holds = refl

stop_after_run_stops : next interlocks (operation 1 (atom 0 0) (atom 0 2)) [] ≡ Some (atom 0 2 ∣ [])
unfolding next
stop_after_run_stops = refl
