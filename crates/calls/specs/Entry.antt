-- What run, show and take look at first, in this order: the image's length, the spare's, whether the words are an image, and its state.
use Rattle.std.specs.Prelude.{ℕ, Bool, cond, ◌&&◌, List, length, Some, None, Ok, Err, Option, Result, ◌==◌, nat_le}
use Rattle.faults.specs.declared.Fault.{Fault}
use Rattle.faults.specs.declared.numbers.FaultNumber.TheVariants.{ImageLength, SpareLength, NotImage, OtherState}
use Rattle.faults.specs.Faults.{fault_of}
use Rattle.calculus.specs.Configurations.{Configuration}
use Rattle.image.specs.Images.{fewest_words, most_words}
use Rattle.image.specs.Reading.{reading}
use Rattle.calls.specs.States.{Status, is_of}

-- whether an image may have so many words
abbrev pub allowed_length : ℕ → Bool
allowed_length n = nat_le fewest_words n && nat_le n most_words

-- go on where the image may have so many words, else refuse by 2
abbrev pub on_length : {A : Type 0} → ℕ → Result A Fault → Result A Fault
on_length n r = cond (allowed_length n) r (Err (fault_of ImageLength 0))

-- go on where the spare is as long as the image, else refuse by 3
abbrev pub on_spare : {A : Type 0} → ℕ → ℕ → Result A Fault → Result A Fault
on_spare spare n r = cond (spare == n) r (Err (fault_of SpareLength 0))

-- the configuration that was read, if there is one and its term is of the state; else 16, or 17
abbrev pub of_status : Status → Option Configuration → Result Configuration Fault
of_status s None = Err (fault_of NotImage 0)
of_status s (Some c) = cond (is_of s c.term) (Ok c) (Err (fault_of OtherState 0))

-- the configuration that a call without a spare goes on with
abbrev pub entered : Status → List ℕ → Result Configuration Fault
entered s image = on_length (length image) (of_status s (reading image))

-- the configuration that a call with a spare of so many words goes on with
abbrev pub entered_with : Status → List ℕ → ℕ → Result Configuration Fault
entered_with s image spare = on_length (length image) (on_spare spare (length image) (of_status s (reading image)))
