-- What the code of show says.
use Rattle.std.specs.Prelude.{◌≡◌, ℕ, true, List, Result, ◌≢◌}
use Rattle.faults.specs.declared.Fault.{Fault}
use Rattle.calculus.specs.Terms.{Term}
use Rattle.calculus.specs.Configurations.{Configuration}
use Rattle.calculus.specs.Views.{view}
use Rattle.encoding.specs.Encoding.{encode, Stands}
use Rattle.image.specs.Images.{Image}
use Rattle.calls.specs.States.{is_of}
use Rattle.calls.specs.declared.states.Status.{Status}
use Rattle.calls.specs.declared.states.Status.TheVariants.{Going as going, Offering as offering, Ended as ended}
use Rattle.calls.specs.Results.{shown_of, show_answer}
use Rattle.engine.specs.declared.answers.Shown.{Shown}
use Rattle.engine.specs.Answers.{shown}

-- an offer is not going
pub offering_rests : offering ≢ going
offering_rests e = cc

-- an end is not going
pub ended_rests : ended ≢ going
ended_rests e = cc

-- the value v that c shows stands at a place of the image
pub record ShownAt (image : List ℕ) (c : Configuration) (place : ℕ) : Type 0 where
  pub value : Term
  pub part : shown_of (view c.term) c.term ≡ record { place = place; words = encode value }
  pub stands : Stands value image place

-- where the value stands that is shown in a state that is not going
abbrev pub ValuePlace : List ℕ → Status → ℕ → Type 0
ValuePlace image wanted place =
    (c : Configuration) → (wanted ≢ going) → Image image c → is_of wanted c.term ≡ true → ShownAt image c place

-- the answer of show in a state that is not going
abbrev pub Shows : List ℕ → Status → Result Shown Fault → Type 0
Shows image wanted r = (wanted ≢ going) → shown r ≡ show_answer wanted image
