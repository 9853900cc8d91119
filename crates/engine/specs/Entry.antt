-- What the code's tests before a call say.
use Rattle.std.specs.Prelude.{◌≡◌, ℕ, ◌^◌, ◌≤◌, OnOk, Ok, Err, Result}
use Rattle.faults.specs.declared.Fault.{Fault}

-- whether a call goes on, or why it does not
abbrev pub passed : {A : Type 0} → Result A Fault → Result (Unit {0}) Fault
passed (Ok a) = Ok tt
passed (Err f) = Err f

-- where it goes on, the image has from 2 to 16,384 words, and the spare as many
abbrev pub LengthsFit : ℕ → ℕ → Result (Unit {0}) Fault → Type 0
LengthsFit image spare r = OnOk r ((2 ≤ image) × (image ≤ 2 ^ 14) × (spare ≡ image))
