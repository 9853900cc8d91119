-- What a line of a step looks for at a part.
use Rattle.std.specs.Prelude.{ℕ}
use Rattle.calculus.specs.Terms.{Term, unit, variable, abstraction, coroutine, application, yield, start, resume, snapshot, fix, atom, operation, instance, resumption, suspension}

pub data View : Type 0 where
  is_abstraction : ℕ → ℕ → Term → View
  is_coroutine : ℕ → ℕ → Term → View
  is_instance : ℕ → ℕ → View
  is_atom : ℕ → ℕ → View
  is_suspension_term : Term → Term → View
  is_other : View

abbrev pub view : Term → View
view unit = is_other
view (variable n) = is_other
view (abstraction x r b) = is_abstraction x r b
view (coroutine x r b) = is_coroutine x r b
view (application f a) = is_other
view (yield t) = is_other
view (start i f a) = is_other
view (resume a b c d) = is_other
view (snapshot t) = is_other
view (fix t) = is_other
view (atom k p) = is_atom k p
view (operation o a b) = is_other
view (instance l r) = is_instance l r
view (resumption l a b c d) = is_other
view (suspension t v) = is_suspension_term t v
