-- Replacement of a name by a term: a binder of the same name is left untouched, and nothing is renamed.
use Rattle.std.specs.Prelude.{ℕ, cond, ◌==◌}
use Rattle.calculus.specs.Terms.{Term, unit, variable, abstraction, coroutine, application, yield, start, resume, snapshot, fix, atom, operation, instance, resumption, suspension}

abbrev pub replace : ℕ → Term → Term → Term
replace x s unit = unit
replace x s (variable n) = cond (n == x) s (variable n)
replace x s (abstraction y r b) = abstraction y r (cond (y == x) b (replace x s b))
replace x s (coroutine y r b) = coroutine y r (cond (y == x) b (replace x s b))
replace x s (application f a) = application (replace x s f) (replace x s a)
replace x s (yield t) = yield (replace x s t)
replace x s (start i f a) = start i (replace x s f) (replace x s a)
replace x s (resume a b c d) = resume (replace x s a) (replace x s b) (replace x s c) (replace x s d)
replace x s (snapshot t) = snapshot (replace x s t)
replace x s (fix t) = fix (replace x s t)
replace x s (atom k p) = atom k p
replace x s (operation o a b) = operation o (replace x s a) (replace x s b)
replace x s (instance l r) = instance l r
replace x s (resumption l a b c d) = resumption l (replace x s a) (replace x s b) (replace x s c) (replace x s d)
replace x s (suspension t v) = suspension (replace x s t) (replace x s v)
