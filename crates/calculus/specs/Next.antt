-- The step as a function: the one successor of a configuration, if it has one.
use Rattle.std.specs.Prelude.{cond, Some, None, Option}
use Rattle.quantities.specs.Meaning.{Meaning}
use Rattle.calculus.specs.Lists.{at}
use Rattle.calculus.specs.Terms.{Term, unit, variable, abstraction, coroutine, application, yield, start, resume, snapshot, fix, atom, operation, instance, resumption, suspension, is_value}
use Rattle.calculus.specs.Configurations.{Bindings, Configuration, ◌∣◌}
use Rattle.calculus.specs.Frames.{Frame, application_left, application_right, yield_frame, start_left, start_right, resume_first, resume_second, resume_third, resume_fourth, snapshot_frame, fix_frame, operation_left, operation_right, plug}
use Rattle.calculus.specs.Views.{View, is_abstraction, is_coroutine, is_instance, is_atom, is_suspension_term, is_other, view}
use Rattle.calculus.specs.Redexes.{applied, fixed, started, resumes, copies, on_empty, captured, operates}

-- a step of a part, as one of the whole
abbrev pub within : (Term → Term) → Option Configuration → Option Configuration
within f None = None
within f (Some c) = Some (f c.term ∣ c.bindings)

-- the part in the frame F makes a step, or its suspension moves out
abbrev pub moves : Frame → View → Bindings → Option Configuration → Option Configuration
moves F (is_abstraction x r b) μ n = within (plug F) n
moves F (is_coroutine x r b) μ n = within (plug F) n
moves F (is_instance l r) μ n = within (plug F) n
moves F (is_atom k p) μ n = within (plug F) n
moves F (is_suspension_term t v) μ n = Some (suspension (plug F t) v ∣ μ)
moves F is_other μ n = within (plug F) n

-- the part t is looked at first; where it is a value, the rest is
abbrev pub first : Frame → Term → Bindings → Option Configuration → Option Configuration → Option Configuration
first F t μ n rest = cond (is_value t) rest (moves F (view t) μ n)

-- The one successor, if there is one.
unfoldable pub next : Meaning → Term → Bindings → Option Configuration
next Q unit μ = None
next Q (variable n) μ = None
next Q (abstraction x r b) μ = None
next Q (coroutine x r b) μ = None
next Q (application f a) μ =
    first (application_left a) f μ (next Q f μ) (first (application_right f) a μ (next Q a μ) (applied (view f) a μ))
next Q (yield t) μ = first yield_frame t μ (next Q t μ) (Some (suspension unit t ∣ μ))
next Q (start i f a) μ =
    first (start_left i a) f μ (next Q f μ) (first (start_right i f) a μ (next Q a μ) (started i (view f) a μ))
next Q (resume a b c d) μ =
    first (resume_first b c d) a μ (next Q a μ)
    (first (resume_second a c d) b μ (next Q b μ)
    (first (resume_third a b d) c μ (next Q c μ) (first (resume_fourth a b c) d μ (next Q d μ) (resumes (view a) b c d μ))))
next Q (snapshot t) μ = first snapshot_frame t μ (next Q t μ) (copies (view t) μ)
next Q (fix t) μ = first fix_frame t μ (next Q t μ) (fixed (view t) μ)
next Q (atom k p) μ = None
next Q (operation o a b) μ =
    first (operation_left o b) a μ (next Q a μ)
    (first (operation_right o a) b μ (next Q b μ) (operates Q o (view a) (view b) μ))
next Q (instance l r) μ = None
next Q (resumption l a b c d) μ =
    cond (is_value a) (on_empty (at μ l) (λ i. application b a ∣ μ))
    (captured l (view a) c μ (within (λ t. resumption l t b c d) (next Q a μ)))
next Q (suspension t v) μ = None
