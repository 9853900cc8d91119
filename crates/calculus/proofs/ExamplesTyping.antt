-- Programs that the judgement accepts, with their type and least yield type.
use Rattle.std.proofs.Common.{◌≡◌, [], refl}
use Rattle.calculus.specs.Terms.{unit, variable, abstraction, coroutine, application, yield, start, fix, atom, operation}
use Rattle.calculus.specs.Typing.{bind}
use Rattle.calculus.specs.Judgement.{judged, judge}
use Rattle.calculus.proofs.ExamplesTables.{unit→unit, unit→count, count→count, unit⇝count⇝unit, unit⇝⊥⇝unit, unit⇝⊥⇝count, count⇝unit, unit→function, count→constant, to_function, to_coroutine, ⊥→⊥, many_rows}
use Rattle.calculus.proofs.ExamplesTerms.{◌has◌yielding◌, once_yielded, five, true_value, same_unit, yields_five, silent}

-- unit and variables
unit_is_unit : unit has 0 yielding 1
unfolding judge
unit_is_unit = refl

variable_in_scope : judge many_rows [] (bind 0 2 []) (variable 0) ≡ judged 2 1
unfolding judge
variable_in_scope = refl

outer_variable_in_scope : judge many_rows [] (bind 1 3 (bind 0 2 [])) (variable 0) ≡ judged 2 1
unfolding judge
outer_variable_in_scope = refl

innermost_binder_counts : judge many_rows [] (bind 0 3 (bind 0 2 [])) (variable 0) ≡ judged 3 1
unfolding judge
innermost_binder_counts = refl

innermost_abstraction_counts : abstraction 0 unit→function (abstraction 0 count→count (variable 0)) has unit→function yielding 1
unfolding judge
innermost_abstraction_counts = refl

outer_abstraction_is_seen : abstraction 0 count→constant (abstraction 1 unit→count (variable 0)) has count→constant yielding 1
unfolding judge
outer_abstraction_is_seen = refl

-- abstractions and coroutines
function_judged : same_unit has unit→unit yielding 1
unfolding judge
function_judged = refl

function_of_counts_judged : abstraction 3 count→count (operation 0 (variable 3) (atom 0 1)) has count→count yielding 1
unfolding judge
function_of_counts_judged = refl

coroutine_judged : yields_five has unit⇝count⇝unit yielding 1
unfolding judge
coroutine_judged = refl

coroutine_need_not_yield : coroutine 0 unit⇝count⇝unit (variable 0) has unit⇝count⇝unit yielding 1
unfolding judge
coroutine_need_not_yield = refl

silent_coroutine_judged : silent has unit⇝⊥⇝unit yielding 1
unfolding judge
silent_coroutine_judged = refl

-- an application of a function: the yield types join
nothing_yields : application same_unit unit has 0 yielding 1
unfolding judge
nothing_yields = refl

argument_yields : application same_unit (yield five) has 0 yielding 2
unfolding judge
argument_yields = refl

function_yields : application (once_yielded to_function five same_unit) unit has 0 yielding 2
unfolding judge
function_yields = refl

function_and_argument_yield : application (once_yielded to_function five same_unit) (yield five) has 0 yielding 2
unfolding judge
function_and_argument_yield = refl

result_is_the_functions : application (abstraction 0 unit→count five) unit has 2 yielding 1
unfolding judge
result_is_the_functions = refl

-- an application of a coroutine: its yield type counts, though nothing else yields
applied_coroutine_judged : application yields_five unit has 0 yielding 2
unfolding judge
applied_coroutine_judged = refl

applied_coroutine_need_not_yield : application (coroutine 0 unit⇝count⇝unit (variable 0)) unit has 0 yielding 2
unfolding judge
applied_coroutine_need_not_yield = refl

coroutine_argument_yields : application yields_five (yield five) has 0 yielding 2
unfolding judge
coroutine_argument_yields = refl

coroutine_itself_yields : application (once_yielded to_coroutine five yields_five) unit has 0 yielding 2
unfolding judge
coroutine_itself_yields = refl

coroutine_and_argument_yield : application (once_yielded to_coroutine five yields_five) (yield five) has 0 yielding 2
unfolding judge
coroutine_and_argument_yield = refl

applied_silent_coroutine_judged : application silent unit has 0 yielding 1
unfolding judge
applied_silent_coroutine_judged = refl

result_is_the_coroutines : application (coroutine 0 unit⇝⊥⇝count five) unit has 2 yielding 1
unfolding judge
result_is_the_coroutines = refl

-- yield
yield_of_a_truth_value : yield true_value has 0 yielding 3
unfolding judge
yield_of_a_truth_value = refl

yield_of_a_function : yield same_unit has 0 yielding unit→unit
unfolding judge
yield_of_a_function = refl

-- a term of type ⊥ has no value, so its yield is never made; the yield type is ⊥
yield_of_bottom : yield (fix (abstraction 0 ⊥→⊥ (variable 0))) has 0 yielding 1
unfolding judge
yield_of_bottom = refl

yield_of_a_yield : yield (yield unit) has 0 yielding 0
unfolding judge
yield_of_a_yield = refl

yield_of_what_yields_its_type : yield (once_yielded unit→count five (atom 0 6)) has 0 yielding 2
unfolding judge
yield_of_what_yields_its_type = refl

-- start: the yield types of the parts join, whatever the instance's is
start_judged : start count⇝unit yields_five unit has count⇝unit yielding 1
unfolding judge
start_judged = refl

start_on_a_yield : start count⇝unit yields_five (yield true_value) has count⇝unit yielding 3
unfolding judge
start_on_a_yield = refl

start_of_what_yields : start count⇝unit (once_yielded to_coroutine true_value yields_five) unit has count⇝unit yielding 3
unfolding judge
start_of_what_yields = refl

start_where_both_yield :
    start count⇝unit (once_yielded to_coroutine true_value yields_five) (yield true_value) has count⇝unit yielding 3
unfolding judge
start_where_both_yield = refl
