-- What words are read as by the loop of a drive.
use Rattle.std.specs.Prelude.{ℕ, ◌/◌, ◌%◌, ◌^◌, cond, ◌&&◌, List, [], ◌∷◌, Some, None, Ok, Err, Option, Result, ◌==◌}
use Rattle.faults.specs.declared.Fault.{Fault}
use Rattle.calls.specs.Results.{Part}
use Rattle.belt.specs.declared.drive.Usage.{Usage}

-- the payload of an atom (kind 10) of base 0
abbrev pub count_in : ℕ → Option ℕ
count_in w = cond (w / 2 ^ 27 == 10 && w / 2 ^ 24 % 2 ^ 3 == 0) (Some (w % 2 ^ 24)) None

-- the count that is the only word
abbrev pub count_of : List ℕ → Option ℕ
count_of [] = None
count_of (w ∷ []) = count_in w
count_of (w ∷ v ∷ ws) = None

-- the count that is shown, or why nothing is
abbrev pub counted : Result Part Fault → Result (Option ℕ) Fault
counted (Ok p) = Ok (count_of p.words)
counted (Err f) = Err f

-- the used words and the bindings that an image head (kind 23) states
abbrev pub usage_in : ℕ → Option Usage
usage_in w = cond (w / 2 ^ 27 == 23) (Some (record { words = w % 2 ^ 15; bindings = w / 2 ^ 15 % 2 ^ 12 })) None

abbrev pub usage_of : List ℕ → Option Usage
usage_of [] = None
usage_of (w ∷ ws) = usage_in w
