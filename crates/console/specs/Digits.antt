-- Numbers as they are written: digits of a base, and the number that they stand for.
use Rattle.std.specs.Prelude.{ℕ, ◌+◌, ◌-◌, ◌*◌, Bool, true, false, cond, ◌&&◌, List, [], ◌∷◌, length, Some, None, Option, ◌==◌, nat_le, nat_lt}
use Rattle.std.specs.Option.{unwrap_or}

-- the value of a digit of any base up to 16: 0 to 9, A to F, a to f
abbrev pub digit : ℕ → Option ℕ
digit b =
    cond (nat_le 48 b && nat_le b 57) (Some (b - 48))
    (cond (nat_le 65 b && nat_le b 70) (Some (b - 55)) (cond (nat_le 97 b && nat_le b 102) (Some (b - 87)) None))

abbrev pub below : ℕ → Option ℕ → Bool
below base None = false
below base (Some d) = nat_lt d base

abbrev pub all_digits : ℕ → List ℕ → Bool
all_digits base [] = true
all_digits base (b ∷ bs) = below base (digit b) && all_digits base bs

-- the number of digits that follow the number v
abbrev pub value_from : ℕ → ℕ → List ℕ → ℕ
value_from base v [] = v
value_from base v (b ∷ bs) = value_from base (v * base + unwrap_or (digit b) 0) bs

abbrev pub number_from : ℕ → ℕ → ℕ → List ℕ → Option ℕ
number_from base limit v bs =
    cond (all_digits base bs && nat_le (value_from base v bs) limit) (Some (value_from base v bs)) None

-- the number that digits of a base stand for, if all are such digits and it is not over the limit
abbrev pub number_in : ℕ → ℕ → List ℕ → Option ℕ
number_in base limit bs = number_from base limit 0 bs

-- a word: exactly eight hexadecimal digits
abbrev pub hex_word : List ℕ → Option ℕ
hex_word bs = cond (length bs == 8) (number_in 16 4294967295 bs) None

-- a number: at least one decimal digit, and at most 65535
abbrev pub decimal : List ℕ → Option ℕ
decimal bs = cond (length bs == 0) None (number_in 10 65535 bs)
