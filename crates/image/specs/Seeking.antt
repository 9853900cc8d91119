-- The place behind terms and bindings that are known to stand among words.
use Rattle.std.specs.Prelude.{ℕ, zero, suc, ◌+◌, ◌%◌, List, [], ◌∷◌}
use Rattle.encoding.specs.Scanning.{arity_of}

-- the place after so many terms and then so many bindings that stand from place i on; the last place where the words end before
abbrev pub seek : ℕ → ℕ → ℕ → List ℕ → ℕ
seek zero zero i ws = i
seek zero (suc b) i [] = i
seek zero (suc b) i (w ∷ ws) = seek (w % 2) b (i + 1) ws
seek (suc p) b i [] = i
seek (suc p) b i (w ∷ ws) = seek (p + arity_of w) b (i + 1) ws
