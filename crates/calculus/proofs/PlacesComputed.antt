-- Paths and places computed for small terms.
use Rattle.std.proofs.Common.{◌≡◌, [], ◌∷◌, refl}
use Rattle.calculus.specs.Terms.{Term, unit, variable, abstraction, coroutine, application, yield, resume, snapshot, fix, atom, operation, instance, resumption, suspension}
use Rattle.calculus.specs.Occurrences.{word_at, put_at}
use Rattle.calculus.specs.Places.{path, place}

-- on the way from the root to the next step: the words of what stands before it count
first_operand : path (operation 0 (operation 0 (atom 0 1) (atom 0 2)) (yield unit)) ≡ 0 ∷ []
first_operand = refl

first_operand_place : place (operation 0 (operation 0 (atom 0 1) (atom 0 2)) (yield unit)) ≡ 2
first_operand_place = refl

second_operand : path (operation 0 (atom 0 1) (yield (fix (abstraction 0 4 (variable 0))))) ≡ 1 ∷ 0 ∷ []
second_operand = refl

second_operand_place : place (operation 0 (atom 0 1) (yield (fix (abstraction 0 4 (variable 0))))) ≡ 4
second_operand_place = refl

-- the path does not enter the body of an abstraction, nor a value
applied_place : place (application (abstraction 0 4 (yield unit)) unit) ≡ 1
applied_place = refl

-- it ends before a suspension
pause_place : place (application (abstraction 0 4 (variable 0)) (yield (suspension unit unit))) ≡ 4
pause_place = refl

-- handlers are evaluated before the instance is resumed
handler_place : place (resume (instance 0 5) (coroutine 0 6 unit) (fix (abstraction 0 4 (variable 0))) (yield unit)) ≡ 5
handler_place = refl

-- the path goes into a resumption, and ends at it where its body is a value or a suspension
abbrev under_handlers : Term → Term
under_handlers t = yield (resumption 0 t (coroutine 0 6 unit) (coroutine 0 7 unit) (coroutine 0 6 unit))

in_resumption : path (under_handlers (snapshot (instance 1 5))) ≡ 0 ∷ 0 ∷ []
in_resumption = refl

at_resumption : path (under_handlers unit) ≡ 0 ∷ []
at_resumption = refl

at_captured : path (under_handlers (suspension unit unit)) ≡ 0 ∷ []
at_captured = refl

-- the words of an occurrence, and a term put in its place
third_handler : word_at (under_handlers (yield unit)) (0 ∷ 3 ∷ []) ≡ 8
third_handler = refl

put_in_resumption : put_at (under_handlers (yield unit)) (0 ∷ 0 ∷ []) (suspension unit unit) ≡ under_handlers (suspension unit unit)
put_in_resumption = refl
