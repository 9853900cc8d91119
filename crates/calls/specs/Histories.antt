-- Histories of calls: what the calls that follow an open lead to.
use Rattle.std.specs.Prelude.{ℕ, ◌^◌, ◌<◌, List, [], ◌∷◌, length, Ok, Err, Result}
use Rattle.faults.specs.declared.Fault.{Fault}
use Rattle.quantities.specs.Meaning.{Meaning}
use Rattle.calls.specs.States.{Status, going, offering, ended}
use Rattle.calls.specs.Results.{run_outcome, take_outcome}

-- A call: run with a number of steps and a spare, show, or take with a spare.
pub data Call : Type 0 where
  run_call : (steps : ℕ) → (spare : List ℕ) → Call
  show_call : Call
  take_call : (spare : List ℕ) → Call

-- Where a history is between two calls: the state that the last call left, and the words of the image.
pub record Point : Type 0 where
  pub status : Status
  pub image : List ℕ

abbrev pub point : Status → List ℕ → Point
point s image = record { status = s; image = image }

-- the state after a call: the next one, or the old one where the call was refused
abbrev pub state_after : Status → Result Status Fault → Status
state_after s (Ok t) = t
state_after s (Err f) = s

-- A call at a point leads to another: it is one that takes the state, and it gets that state and that image. Run and take leave the state
-- and the image of `run_outcome` and `take_outcome`, refused or not, and show changes neither. A run's number of steps has 16 bits, and
-- the spare is any words.
pub data Leads (Q : Meaning) : Point → Call → Point → Type 0 where
  by_run :
      {image : List ℕ} (n : ℕ) (spare : List ℕ) → n < 2 ^ 16 →
      Leads Q (point going image) (run_call n spare)
      (point (state_after going (run_outcome Q n image (length spare)).answer) (run_outcome Q n image (length spare)).image)
  by_show_of_offer : {image : List ℕ} → Leads Q (point offering image) show_call (point offering image)
  by_show_of_end : {image : List ℕ} → Leads Q (point ended image) show_call (point ended image)
  by_take :
      {image : List ℕ} (spare : List ℕ) →
      Leads Q (point offering image) (take_call spare)
      (point (state_after offering (take_outcome image (length spare)).answer) (take_outcome image (length spare)).image)

-- A list of calls leads from a point to another, one call after the other; nothing else writes the image.
pub data Follows (Q : Meaning) : Point → List Call → Point → Type 0 where
  no_calls : {p : Point} → Follows Q p [] p
  call_first : {p q r : Point} {call : Call} {calls : List Call} → Leads Q p call q → Follows Q q calls r → Follows Q p (call ∷ calls) r
