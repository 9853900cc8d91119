-- Where the next step happens, seen from the words of a term.
use Rattle.std.specs.Prelude.{ℕ, zero, suc, ◌+◌, cond, List, [], ◌∷◌, Some, None, Option, ◌==◌, slice_index}
use Rattle.encoding.specs.Scanning.{arity_of}
use Rattle.image.specs.Reading.{kind_at, value_kind}

-- how many parts of a word of each kind are evaluated
abbrev pub evaluated_counts : List ℕ
evaluated_counts = 0 ∷ 0 ∷ 0 ∷ 0 ∷ 2 ∷ 1 ∷ 2 ∷ 4 ∷ 1 ∷ 1 ∷ 0 ∷ 2 ∷ 0 ∷ 1 ∷ 0 ∷ []

abbrev pub evaluated_of : ℕ → ℕ
evaluated_of w = slice_index evaluated_counts (kind_at w)

-- over the words from place i on: the last term that was entered stands at `last`, `left` of its evaluated parts are to come, and `skip`
-- terms before them; the answer is the place of the path's last term
abbrev pub walk : ℕ → ℕ → ℕ → ℕ → List ℕ → ℕ
walk i last left skip [] = last
walk i last left (suc n) (w ∷ ws) = walk (i + 1) last left (n + arity_of w) ws
walk i last zero zero (w ∷ ws) = last
walk i last (suc e) zero (w ∷ ws) =
    cond (value_kind (kind_at w)) (walk (i + 1) last e (arity_of w) ws)
    (cond (kind_at w == 14) last (walk (i + 1) i (evaluated_of w) 0 ws))

-- over the words from place i on, `left` evaluated parts to come and `skip` terms before them: the place of the first part that is no
-- value, if that is a suspension
abbrev pub pause_at : ℕ → ℕ → ℕ → List ℕ → Option ℕ
pause_at i left skip [] = None
pause_at i left (suc s) (w ∷ ws) = pause_at (i + 1) left (s + arity_of w) ws
pause_at i zero zero (w ∷ ws) = None
pause_at i (suc e) zero (w ∷ ws) =
    cond (value_kind (kind_at w)) (pause_at (i + 1) e (arity_of w) ws) (cond (kind_at w == 14) (Some i) None)

-- over the words from place i on, `left` terms to come and `skip` terms before them: the place of the first of those to come that is no
-- value
abbrev pub unfinished : ℕ → ℕ → ℕ → List ℕ → Option ℕ
unfinished i left skip [] = None
unfinished i left (suc s) (w ∷ ws) = unfinished (i + 1) left (s + arity_of w) ws
unfinished i zero zero (w ∷ ws) = None
unfinished i (suc e) zero (w ∷ ws) = cond (value_kind (kind_at w)) (unfinished (i + 1) e (arity_of w) ws) (Some i)
