-- The path, computed by the term: what Active says, by cases. The path enters the first evaluated part that is not a value.
use Rattle.std.proofs.Common.{◌≡◌, ℕ, Bool, true, false, List, [], ◌∷◌}
use Rattle.calculus.specs.Terms.{Term, unit, variable, abstraction, coroutine, application, yield, start, resume, snapshot, fix, atom, operation, instance, resumption, suspension, is_value, Value}
use Rattle.calculus.specs.Shape.{Plain}

-- the one type where a test passes, the other where it fails
abbrev pub Split : Bool → Type 0 → Type 0 → Type 0
Split true A B = A
Split false A B = B

-- Live t ls: the resumptions of t all lie on the path to the next step, and ls are their labels from outside in. The path enters the first
-- evaluated part that is not a value; all beside it is plain.
abbrev pub Live : Term → List ℕ → Type 0
Live unit ls = ls ≡ []
Live (variable n) ls = ls ≡ []
Live (abstraction x r b) ls = Plain b × (ls ≡ [])
Live (coroutine x r b) ls = Plain b × (ls ≡ [])
Live (application f a) ls = Split (is_value f) (Plain f × Live a ls) (Live f ls × Plain a)
Live (yield t) ls = Live t ls
Live (start i f a) ls = Split (is_value f) (Plain f × Live a ls) (Live f ls × Plain a)
Live (resume a b c d) ls =
    Split (is_value a)
    (Plain a ×
    (Split (is_value b) (Plain b × (Split (is_value c) (Plain c × Live d ls) (Live c ls × Plain d))) (Live b ls × Plain c × Plain d)))
    (Live a ls × Plain b × Plain c × Plain d)
Live (snapshot t) ls = Live t ls
Live (fix t) ls = Live t ls
Live (atom k p) ls = ls ≡ []
Live (operation o a b) ls = Split (is_value a) (Plain a × Live b ls) (Live a ls × Plain b)
Live (instance l r) ls = ls ≡ []
Live (resumption l a b c d) ls =
    (ks : List ℕ) × (ls ≡ l ∷ ks) × Live a ks × (Value b × Value c × Value d) × (Plain b × Plain c × Plain d)
Live (suspension t v) ls = (ls ≡ []) × Plain t × Plain v × Value v
