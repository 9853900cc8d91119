-- A name replaced by a term, seen from the words of both.
use Rattle.std.specs.Prelude.{ℕ, zero, suc, ◌+◌, Bool, cond, ◌&&◌, ◌||◌, List, [], ◌∷◌, ◌++◌, ◌==◌}
use Rattle.encoding.specs.Scanning.{arity_of}
use Rattle.image.specs.Reading.{kind_at, label_at}

-- whether a word is the variable x (its name stands where a label does)
abbrev pub is_variable : ℕ → ℕ → Bool
is_variable x w = kind_at w == 1 && label_at w == x

-- whether a word binds the name x
abbrev pub binds : ℕ → ℕ → Bool
binds x w = (kind_at w == 2 || kind_at w == 3) && label_at w == x

-- how many terms are still to come in which x is bound anew, after the word w, where there were n before
abbrev pub shade : ℕ → ℕ → ℕ → ℕ
shade x zero w = cond (binds x w) 1 0
shade x (suc n) w = n + arity_of w

-- the words vs for the variable x, in words of which those of the first n terms are left untouched
abbrev pub replaced : ℕ → List ℕ → ℕ → List ℕ → List ℕ
replaced x vs n [] = []
replaced x vs n (w ∷ ws) = cond (n == 0 && is_variable x w) (vs ++ replaced x vs n ws) (w ∷ replaced x vs (shade x n w) ws)
