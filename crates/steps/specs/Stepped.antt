-- What a step and a run of steps write to an image and answer.
use Rattle.std.specs.Prelude.{◌≡◌, ℕ, List, length, Some, None, Ok, Err, Option, Result}
use Rattle.faults.specs.declared.Fault.{Fault}
use Rattle.calculus.specs.Configurations.{Configuration}
use Rattle.image.specs.Images.{image_of}
use Rattle.image.specs.Stepping.{Stop}
use Rattle.steps.specs.declared.run.Halted.{Halted}

-- a refused step answers its fault and leaves the image as it was; after one that is made the image is that of the successor
abbrev pub StepWritten : Result (Unit {0}) Fault → List ℕ → List ℕ → Result Configuration Fault → Type 0
StepWritten r image image' (Err f) = (r ≡ Err f) × (image' ≡ image)
StepWritten r image image' (Ok d) = (r ≡ Ok tt) × (image' ≡ image_of (length image) d)

-- so many steps made, or the refusal of the one after them
abbrev pub run_answer : ℕ → Option Fault → Result ℕ Halted
run_answer made None = Ok made
run_answer made (Some f) = Err (record { fault = f; made = made })

-- a run answers how many steps were made, or the refusal of the next one; the image is that of the last configuration
pub record RunWritten (r : Result ℕ Halted) (image image' : List ℕ) (s : Stop) : Type 0 where
  pub answer : r ≡ run_answer s.made s.fault
  pub is : image' ≡ image_of (length image) s.last
