-- Examples over the set of counts, computed by the definitions; the last shows that the premises of the theorems can be met.
use Rattle.std.proofs.Common.{◌≡◌, ℕ, zero, suc, List, [], ◌∷◌, refl}
use Rattle.faults.specs.declared.numbers.FaultNumber.TheVariants.{Scope, Quantity, Types, YieldType}
use Rattle.faults.specs.Faults.{fault_of}
use Rattle.quantities.specs.Counts.{counts}
use Rattle.quantities.specs.CountsLaw.{counts_lawful}
use Rattle.rules.specs.Rules.{Verdict, accepted, refused}
use Rattle.calculus.specs.Terms.{Term, unit, variable, abstraction, coroutine, application, yield, start, resume, atom, operation}
use Rattle.calculus.specs.Rows.{Row, unit_type, bottom_type, base_type, function_type, coroutine_type, instance_type, Setting, WellFormed}
use Rattle.calculus.proofs.Tables.{well_formed}
use Rattle.programs.specs.Tables.{table_words}
use Rattle.judging.specs.Verdicts.{verdict}
use Rattle.judging.specs.Places.{Located}
use Rattle.judging.proofs.Located.{located}

-- the bases of the counts, and then more rows, from row 4 on
abbrev bases_and : List Row → List Row
bases_and more = base_type 0 ∷ base_type 1 ∷ more

abbrev table_of : List Row → List Row
table_of more = unit_type ∷ bottom_type ∷ bases_and more

-- a program's term stands after the head and the rows
abbrev judged : List Row → ℕ → Term → Verdict
judged more i t = verdict counts (table_words (table_of more)) [] i t

-- the rows of the bases, as words
base_words : table_words (table_of []) ≡ 0x80000000 ∷ 0x88000000 ∷ 0x90000000 ∷ 0x90000001 ∷ []
base_words = refl

-- a yield of the count 5 has type Unit and yields counts
a_yield : judged [] 5 (yield (atom 0 5)) ≡ accepted 0 2
a_yield = refl

abbrev yields : ℕ → Term
yields zero = unit
yields (suc n) = yield (yields n)

many_yields : judged [] 5 (yields 255) ≡ accepted 0 0
many_yields = refl

-- an instance is started and resumed
one_resume :
    judged (coroutine_type 0 2 0 ∷ instance_type 2 0 ∷ coroutine_type 0 1 0 ∷ coroutine_type 2 1 0 ∷ []) 9
    (resume (start 5 (coroutine 0 4 (yield (atom 0 7))) unit) (coroutine 0 6 unit) (coroutine 0 7 unit) (coroutine 0 6 unit))
    ≡ accepted 0 1
one_resume = refl

-- the coroutine yields nothing, and its argument does
abbrev yield_in_argument : Term
yield_in_argument = application (coroutine 0 4 (variable 0)) (yield (atom 0 5))

argument_yields : judged (coroutine_type 0 1 0 ∷ []) 6 yield_in_argument ≡ refused YieldType 6
unfolding refused
argument_yields = refl

-- the body of an abstraction may not yield
body_yields : judged (function_type 0 0 ∷ []) 6 (abstraction 0 4 (yield (variable 0))) ≡ refused YieldType 6
unfolding refused
body_yields = refl

-- a variable that is not in scope
not_in_scope : judged [] 5 (yield (variable 3)) ≡ refused Scope 6
unfolding refused
not_in_scope = refl

-- base 1 holds 0 and 1
not_in_base : judged [] 5 (yield (atom 1 2)) ≡ refused Quantity 6
unfolding refused
not_in_base = refl

-- there is no operation 4; that its operands would not do comes after
no_signature : judged [] 5 (operation 4 unit unit) ≡ refused Quantity 5
unfolding refused
no_signature = refl

-- a count and a truth value are not added
operands_differ : judged [] 5 (operation 0 (atom 0 1) (atom 1 1)) ≡ refused Types 5
unfolding refused
operands_differ = refl

-- the argument has the wrong type, and yields besides
types_first : judged (coroutine_type 2 1 2 ∷ []) 6 yield_in_argument ≡ refused Types 6
unfolding refused
types_first = refl

-- of two terms without a type the first counts
first_of_two : judged [] 5 (operation 0 (operation 4 unit unit) (variable 3)) ≡ refused Quantity 6
unfolding refused
first_of_two = refl

abbrev one_coroutine : Setting
one_coroutine = record { table = table_of (coroutine_type 0 1 0 ∷ []); set = counts }

one_coroutine_formed : WellFormed one_coroutine
one_coroutine_formed = well_formed counts (bases_and (coroutine_type 0 1 0 ∷ [])) counts_lawful refl refl refl

argument_yields_located : Located one_coroutine 6 yield_in_argument (fault_of YieldType 6)
unfolding refused
argument_yields_located =
    located one_coroutine one_coroutine_formed (refl, (refl, (refl, (refl, (refl, tt))))) 6 yield_in_argument (tt, tt) (fault_of YieldType 6) refl
