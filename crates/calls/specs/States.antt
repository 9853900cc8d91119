-- The states of a run: it goes on, it offers a value, or it has ended.
use Rattle.std.specs.Prelude.{ℕ, Bool, cond, not, List, codes}
use Rattle.calculus.specs.Terms.{Term, is_value, is_suspension}
use Rattle.image.specs.Stepping.{rests}
pub use Rattle.calls.specs.declared.states.Status.{Status}
pub use Rattle.calls.specs.declared.states.Status.TheVariants.{Going as going, Offering as offering, Ended as ended}

-- the state of a term: ended if it is a value, offering if it is a suspension, else going
abbrev pub status_of : Term → Status
status_of t = cond (is_value t) ended (cond (is_suspension t) offering going)

-- whether a term is of a state
abbrev pub is_of : Status → Term → Bool
is_of going t = not (rests t)
is_of offering t = is_suspension t
is_of ended t = is_value t

-- the name of a state, as it is printed
abbrev pub status_name : Status → List ℕ
status_name going = codes "going"
status_name offering = codes "offering"
status_name ended = codes "ended"
