-- The states as the code has them.
use Rattle.std.specs.Prelude.{ℕ, cond, ◌==◌}
use Rattle.image.specs.Reading.{kind_at, value_kind}
use Rattle.calls.specs.declared.states.Status.{Status}
use Rattle.calls.specs.declared.states.Status.TheVariants.{Going as going, Offering as offering, Ended as ended}
use Rattle.engine.specs.declared.states.State.{State}
use Rattle.engine.specs.declared.states.State.TheVariants as S

-- the state that a call leaves
abbrev pub state_of : Status → State
state_of going = S.Going (record { 0 = tt })
state_of offering = S.Offering (record { 0 = tt })
state_of ended = S.Ended (record { 0 = tt })

-- the name of the state of the term whose first word this is
abbrev pub status_at : ℕ → Status
status_at w = cond (value_kind (kind_at w)) ended (cond (kind_at w == 14) offering going)
