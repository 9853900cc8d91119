-- The entry at a place of a list, and lists that begin with another.
use Rattle.std.specs.Prelude.{◌≡◌, ℕ, zero, suc, List, [], ◌∷◌, ◌++◌, Some, None, Option}

-- what stands at a place, if the list goes that far
abbrev pub at : {A : Type 0} → List A → ℕ → Option A
at [] n = None
at (x ∷ xs) zero = Some x
at (x ∷ xs) (suc n) = at xs n

-- the list with another entry at a place
abbrev pub put : {A : Type 0} → List A → ℕ → A → List A
put [] n y = []
put (x ∷ xs) zero y = y ∷ xs
put (x ∷ xs) (suc n) y = x ∷ put xs n y

-- ys begins with xs
pub record Prefix {A : Type 0} (xs ys : List A) : Type 0 where
  pub more : List A
  pub is : ys ≡ xs ++ more
