-- The path to the next step, and the place of the step.
use Rattle.std.specs.Prelude.{ℕ, suc, cond, List, [], ◌∷◌, take, Some, None, Option}
use Rattle.calculus.specs.Lists.{Prefix}
use Rattle.calculus.specs.Terms.{Term, unit, variable, abstraction, coroutine, application, yield, start, resume, snapshot, fix, atom, operation, instance, resumption, suspension, is_value, is_suspension}
use Rattle.calculus.specs.Parts.{parts}
use Rattle.calculus.specs.Occurrences.{Position, word_at}

-- how many parts are evaluated, from the first on; of a resumption only the first is
abbrev pub evaluated : Term → ℕ
evaluated unit = 0
evaluated (variable n) = 0
evaluated (abstraction x r b) = 0
evaluated (coroutine x r b) = 0
evaluated (application f a) = 2
evaluated (yield t) = 1
evaluated (start i f a) = 2
evaluated (resume a b c d) = 4
evaluated (snapshot t) = 1
evaluated (fix t) = 1
evaluated (atom k p) = 0
evaluated (operation o a b) = 2
evaluated (instance l r) = 0
evaluated (resumption l a b c d) = 1
evaluated (suspension t v) = 0

-- the number of the first term that is not a value, unless that is a suspension
abbrev pub first_entered : List Term → Option ℕ
first_entered [] = None
first_entered (t ∷ ts) =
    cond (is_value t) (elim (first_entered ts) [ None ↦ None | Some k ↦ Some (suc k) ]) (cond (is_suspension t) None (Some 0))

-- the part that the path enters from a term, if it enters one
abbrev pub enters : Term → Option ℕ
enters t = first_entered (take (evaluated t) (parts t))

-- part k is looked at: where it is a value, the rest is; where it is a suspension, the path ends; else the path enters it and goes on by p
abbrev pub enter : ℕ → Term → Position → Position → Position
enter k t p rest = cond (is_value t) rest (cond (is_suspension t) [] (k ∷ p))

-- The position of the path's last term. The path starts at the root and enters the first evaluated part that is not a value, unless that
-- is a suspension.
abbrev pub path : Term → Position
path unit = []
path (variable n) = []
path (abstraction x r b) = []
path (coroutine x r b) = []
path (application f a) = enter 0 f (path f) (enter 1 a (path a) [])
path (yield t) = enter 0 t (path t) []
path (start i f a) = enter 0 f (path f) (enter 1 a (path a) [])
path (resume a b c d) = enter 0 a (path a) (enter 1 b (path b) (enter 2 c (path c) (enter 3 d (path d) [])))
path (snapshot t) = enter 0 t (path t) []
path (fix t) = enter 0 t (path t) []
path (atom k p) = []
path (operation o a b) = enter 0 a (path a) (enter 1 b (path b) [])
path (instance l r) = []
path (resumption l a b c d) = enter 0 a (path a) []
path (suspension t v) = []

-- the occurrence is on the path: the path comes to it, or through it
abbrev pub OnThePath : Term → Position → Type 0
OnThePath t p = Prefix p (path t)

-- the place of the step: the number of its word, where the term starts at word 1
abbrev pub place : Term → ℕ
place t = suc (word_at t (path t))
