-- What the examples say, and the terms that they share.
use Rattle.std.proofs.Common.{◌≡◌, ℕ, zero, suc, [], Some, None, Option}
use Rattle.quantities.specs.Counts.{counts}
use Rattle.calculus.specs.Terms.{Term, unit, variable, abstraction, coroutine, application, yield, start, resume, atom, operation, resumption, suspension}
use Rattle.calculus.specs.Judgement.{Judgement, judged, judge}
use Rattle.calculus.specs.Configurations.{Configuration}
use Rattle.calculus.specs.Next.{next}
use Rattle.calculus.proofs.ExamplesTables.{unit→unit, unit→count, count→count, unit⇝count⇝unit, unit⇝⊥⇝unit, unit⇝truth⇝count, unit⇝⊥⇝count, count⇝⊥⇝count, truth⇝count, of_count, of_truth, of_unit, many_rows, two_bindings}

-- what is judged of a closed term
infix 2 ◌has◌yielding◌
abbrev pub ◌has◌yielding◌ : Term → ℕ → ℕ → Type 0
t has T yielding Y = judge many_rows [] [] t ≡ judged T Y

-- what is judged of a closed term where there are two bindings
abbrev pub judge_running : Term → Option Judgement
judge_running t = judge many_rows two_bindings [] t

abbrev pub Refused : Term → Type 0
Refused t = judge many_rows [] [] t ≡ None

-- one step, and no step
infix 2 ◌steps_to◌
abbrev pub ◌steps_to◌ : Configuration → Configuration → Type 0
c steps_to d = next counts c.term c.bindings ≡ Some d

abbrev pub Stays : Configuration → Type 0
Stays c = next counts c.term c.bindings ≡ None

-- n steps, or as many as there are
abbrev pub after : ℕ → Configuration → Configuration
after zero c = c
after (suc n) c = elim (next counts c.term c.bindings) [ None ↦ c | Some d ↦ after n d ]

-- t, after a yield of v; r is the row of functions from Unit to the type of t
abbrev pub once_yielded : ℕ → Term → Term → Term
once_yielded r v t = application (abstraction 0 r t) (yield v)

abbrev pub five : Term
five = atom 0 5

abbrev pub true_value : Term
true_value = atom 1 1

abbrev pub same_unit : Term
same_unit = abstraction 0 unit→unit (variable 0)

abbrev pub same_count : Term
same_count = abstraction 0 count→count (variable 0)

-- a coroutine that yields a count, and one that does not yield
abbrev pub yields_five : Term
yields_five = coroutine 0 unit⇝count⇝unit (yield five)

abbrev pub silent : Term
silent = coroutine 0 unit⇝⊥⇝unit (variable 0)

-- a handler that gives a function of counts, by its row
abbrev pub handler : ℕ → Term
handler r = coroutine 0 r same_count

-- a start of an instance that yields truth values and gives a count, its body, and a resume of it
abbrev pub body : Term
body = once_yielded unit→count true_value five

abbrev pub new_instance : Term
new_instance = start truth⇝count (coroutine 0 unit⇝truth⇝count body) unit

-- under handlers of its result, of what it yields, and of unit
abbrev pub with_handlers : Term → Term
with_handlers t = resume t (handler of_count) (handler of_truth) (handler of_unit)

abbrev pub executing_with_handlers : ℕ → Term → Term
executing_with_handlers l t = resumption l t (handler of_count) (handler of_truth) (handler of_unit)

-- a term that makes a step to five; and a suspension of unit that offers five
abbrev pub sum : Term
sum = operation 0 (atom 0 2) (atom 0 3)

abbrev pub waiting : Term
waiting = suspension unit five

-- three handlers that can be told apart: of a result they give 100, of what is yielded that, and of neither 300
abbrev pub on_result : Term
on_result = coroutine 0 unit⇝⊥⇝count (atom 0 100)

abbrev pub on_yield : Term
on_yield = coroutine 0 count⇝⊥⇝count (variable 0)

abbrev pub on_neither : Term
on_neither = coroutine 0 unit⇝⊥⇝count (atom 0 300)

abbrev pub resume_once : Term → Term
resume_once t = resume t on_result on_yield on_neither

abbrev pub executing : ℕ → Term → Term
executing l t = resumption l t on_result on_yield on_neither

-- the variable x stands for the term s in t; r is the row of functions from its type to that of t
abbrev pub with_name : ℕ → ℕ → Term → Term → Term
with_name x r s t = application (abstraction x r t) s
