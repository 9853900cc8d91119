-- Programs that the judgement refuses.
use Rattle.std.proofs.Common.{◌≡◌, [], None, refl}
use Rattle.calculus.specs.Terms.{unit, variable, abstraction, coroutine, application, yield, start, snapshot, fix}
use Rattle.calculus.specs.Typing.{bind}
use Rattle.calculus.specs.Judgement.{judge}
use Rattle.calculus.proofs.ExamplesTables.{unit→unit, unit→count, unit⇝count⇝unit, unit⇝⊥⇝unit, unit⇝truth⇝unit, count⇝unit, truth⇝unit, count⇝count, count→constant, to_function, to_coroutine, to_silent, many_rows}
use Rattle.calculus.proofs.ExamplesTerms.{Refused, once_yielded, five, true_value, same_unit, yields_five, silent, new_instance}

-- variables
variable_out_of_scope : Refused (variable 0)
unfolding judge
variable_out_of_scope = refl

other_variable_in_scope : judge many_rows [] (bind 0 2 []) (variable 1) ≡ None
unfolding judge
other_variable_in_scope = refl

outer_binder_does_not_count : Refused (abstraction 0 count→constant (abstraction 0 unit→count (variable 0)))
unfolding judge
outer_binder_does_not_count = refl

scope_ends_with_the_body : Refused (application same_unit (variable 0))
unfolding judge
scope_ends_with_the_body = refl

-- abstractions and coroutines
function_of_another_result : Refused (abstraction 0 unit→count (variable 0))
unfolding judge
function_of_another_result = refl

function_that_yields : Refused (abstraction 0 unit→unit (yield five))
unfolding judge
function_that_yields = refl

function_of_a_coroutine_row : Refused (abstraction 0 unit⇝⊥⇝unit (variable 0))
unfolding judge
function_of_a_coroutine_row = refl

function_of_a_row_unit : Refused (abstraction 0 0 unit)
unfolding judge
function_of_a_row_unit = refl

function_of_no_row : Refused (abstraction 0 99 unit)
unfolding judge
function_of_no_row = refl

coroutine_of_another_result : Refused (coroutine 0 unit⇝count⇝unit five)
unfolding judge
coroutine_of_another_result = refl

coroutine_of_another_yield : Refused (coroutine 0 unit⇝truth⇝unit (yield five))
unfolding judge
coroutine_of_another_yield = refl

silent_coroutine_that_yields : Refused (coroutine 0 unit⇝⊥⇝unit (yield five))
unfolding judge
silent_coroutine_that_yields = refl

coroutine_of_a_function_row : Refused (coroutine 0 unit→unit (variable 0))
unfolding judge
coroutine_of_a_function_row = refl

-- applications
applied_function_to_another_type : Refused (application same_unit five)
unfolding judge
applied_function_to_another_type = refl

applied_function_of_two_yields : Refused (application (once_yielded to_function true_value same_unit) (yield five))
unfolding judge
applied_function_of_two_yields = refl

applied_coroutine_to_another_type : Refused (application yields_five five)
unfolding judge
applied_coroutine_to_another_type = refl

applied_coroutine_yields_another : Refused (application (once_yielded to_coroutine true_value yields_five) unit)
unfolding judge
applied_coroutine_yields_another = refl

coroutine_argument_yields_another : Refused (application yields_five (yield true_value))
unfolding judge
coroutine_argument_yields_another = refl

silent_coroutine_on_a_yield : Refused (application silent (yield five))
unfolding judge
silent_coroutine_on_a_yield = refl

silent_coroutine_that_itself_yields : Refused (application (once_yielded to_silent five silent) unit)
unfolding judge
silent_coroutine_that_itself_yields = refl

applied_unit : Refused (application unit unit)
unfolding judge
applied_unit = refl

applied_count : Refused (application five unit)
unfolding judge
applied_count = refl

applied_instance : Refused (application new_instance unit)
unfolding judge
applied_instance = refl

-- yield and start
yield_of_another_yield : Refused (yield (yield five))
unfolding judge
yield_of_another_yield = refl

start_of_another_yield : Refused (start truth⇝unit yields_five unit)
unfolding judge
start_of_another_yield = refl

start_of_another_result : Refused (start count⇝count yields_five unit)
unfolding judge
start_of_another_result = refl

start_of_a_coroutine_row : Refused (start unit⇝count⇝unit yields_five unit)
unfolding judge
start_of_a_coroutine_row = refl

start_of_a_function : Refused (start count⇝unit same_unit unit)
unfolding judge
start_of_a_function = refl

start_on_another_type : Refused (start count⇝unit yields_five five)
unfolding judge
start_on_another_type = refl

start_of_two_yields : Refused (start count⇝unit (once_yielded to_coroutine true_value yields_five) (yield five))
unfolding judge
start_of_two_yields = refl

-- snapshot and fix
snapshot_of_unit : Refused (snapshot unit)
unfolding judge
snapshot_of_unit = refl

snapshot_of_a_coroutine : Refused (snapshot yields_five)
unfolding judge
snapshot_of_a_coroutine = refl

fix_between_two_types : Refused (fix (abstraction 0 unit→count five))
unfolding judge
fix_between_two_types = refl

fix_of_a_coroutine : Refused (fix silent)
unfolding judge
fix_of_a_coroutine = refl

fix_of_what_yields : Refused (fix (once_yielded to_function five same_unit))
unfolding judge
fix_of_what_yields = refl
