-- What a stack over a slice holds, the newest entry first.
use Rattle.std.specs.Prelude.{◌≡◌, ℕ, List, [], ◌∷◌, reverse, take, length}
use Rattle.std.specs.Borrow.{MutBor}

-- the first n slots hold the entries, the newest last
abbrev pub entries : {A : Type 0} → List A → ℕ → List A
entries slots n = reverse (take n slots)

-- another entry in the place of the newest
abbrev pub renewed : {A : Type 0} → A → List A → List A
renewed x [] = []
renewed x (y ∷ ys) = x ∷ ys

-- a stack is still over the slots that it was over: as many, and lent by the same loan
abbrev pub SameSlots : {A : Type 0} → MutBor (List A) → MutBor (List A) → Type 0
SameSlots before after = (length after.now ≡ length before.now) × (after.ghost_name ≡ before.ghost_name)
