-- What a step, and a run of steps, come to in an image of so many words.
use Rattle.std.specs.Prelude.{ℕ, zero, suc, Bool, cond, ◌||◌, length, Some, None, Ok, Err, Option, Result, nat_lt}
use Rattle.faults.specs.declared.Fault.{Fault}
use Rattle.faults.specs.declared.numbers.FaultNumber.TheVariants.{Labels, ImageFull, NoRule}
use Rattle.faults.specs.Faults.{fault_of}
use Rattle.quantities.specs.Meaning.{Meaning}
use Rattle.calculus.specs.Terms.{Term, is_value, is_suspension}
use Rattle.calculus.specs.Configurations.{Configuration}
use Rattle.calculus.specs.Places.{place}
use Rattle.calculus.specs.Next.{next}
use Rattle.image.specs.Images.{most_bindings, used}

-- the successor d of a configuration whose step is at place p, if it fits: refused where it has too many bindings, else where it needs too
-- many words
abbrev pub if_it_fits : ℕ → ℕ → Configuration → Result Configuration Fault
if_it_fits len p d =
    cond (nat_lt most_bindings (length d.bindings)) (Err (fault_of Labels p)) (cond (nat_lt len (used d)) (Err (fault_of ImageFull p)) (Ok d))

-- what a step at place p comes to, by the successor
abbrev pub step_result : ℕ → ℕ → Option Configuration → Result Configuration Fault
step_result len p None = Err (fault_of NoRule p)
step_result len p (Some d) = if_it_fits len p d

-- the one successor, if it fits an image of so many words; else why the step is refused, and its place: no rule applies, the labels are
-- used up, the image is full
abbrev pub step_in : Meaning → ℕ → Configuration → Result Configuration Fault
step_in Q len c = step_result len (place c.term) (next Q c.term c.bindings)

-- whether a term is a value or a suspension
abbrev pub rests : Term → Bool
rests t = is_value t || is_suspension t

-- Where a run of steps stops: how many were made, the configuration after them, and the fault of the step that was refused, if one was.
pub record Stop : Type 0 where
  pub made : ℕ
  pub last : Configuration
  pub fault : Option Fault

abbrev pub stop_at : Configuration → Option Fault → Stop
stop_at c f = record { made = 0; last = c; fault = f }

-- the same stop after one step more
abbrev pub one_more : Stop → Stop
one_more s = record { made = suc s.made; last = s.last; fault = s.fault }

-- at most n steps: until n are made, the term is a value or a suspension, or a step is refused
abbrev pub steps_in : Meaning → ℕ → ℕ → Configuration → Stop
steps_in Q len zero c = stop_at c None
steps_in Q len (suc n) c =
    cond (rests c.term) (stop_at c None)
    (elim (step_in Q len c) [ Err f ↦ stop_at c (Some f) | Ok d ↦ one_more (steps_in Q len n d) ])
