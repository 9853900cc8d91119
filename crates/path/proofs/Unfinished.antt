-- The walk and the search for a suspension go on from the first part that is no value.
use Rattle.std.proofs.Common.{◌≡◌, ℕ, zero, suc, ◌+◌, Bool, true, false, cond, eqb, List, [], ◌∷◌, get_or, drop, Some, None, sym, refl, ap, ◌∙◌, arith}
use Rattle.std.specs.Bool.{then_some}
use Rattle.std.proofs.lemmas.List.{drop-drop, get_or-drop}
use Rattle.std.proofs.lemmas.Option.{none-some}
use Rattle.encoding.specs.Scanning.{arity_of}
use Rattle.image.specs.Reading.{kind_at, value_kind}
use Rattle.path.specs.Walking.{evaluated_of, walk, pause_at, unfinished}

-- where all are values, both end
record Ends (ws : List ℕ) (i last left skip : ℕ) : Type 0 where
  walked : walk i last left skip ws ≡ last
  none : pause_at i left skip ws ≡ None

-- else both go on from place q of the words xs
record GoesOn (xs ws : List ℕ) (i last left skip q : ℕ) : Type 0 where
  walked :
      walk i last left skip ws
      ≡ cond (eqb (kind_at (get_or xs q 0)) 14) last (walk (q + 1) q (evaluated_of (get_or xs q 0)) 0 (drop (q + 1) xs))
  paused : pause_at i left skip ws ≡ cond (eqb (kind_at (get_or xs q 0)) 14) (Some q) None

ends_here :
    (w : ℕ) (ws : List ℕ) (i last e : ℕ) (b : Bool) → value_kind (kind_at w) ≡ b →
    (unfinished (i + 1) e (arity_of w) ws ≡ None → Ends ws (i + 1) last e (arity_of w)) →
    cond b (unfinished (i + 1) e (arity_of w) ws) (Some i) ≡ None → Ends (w ∷ ws) i last (suc e) 0
ends_here w ws i last e true v more h = let m = more h in record { walked = rw v m.walked; none = rw v m.none }
ends_here w ws i last e false v more h = absurd (none-some i (sym h))

ends : (ws : List ℕ) (i last left skip : ℕ) → unfinished i left skip ws ≡ None → Ends ws i last left skip
ends [] i last left skip h = record { walked = refl; none = refl }
ends (w ∷ ws) i last left (suc s) h =
    let m = ends ws (i + 1) last left (s + arity_of w) h in record { walked = m.walked; none = m.none }
ends (w ∷ ws) i last zero zero h = record { walked = refl; none = refl }
ends (w ∷ ws) i last (suc e) zero h =
    ends_here w ws i last e (value_kind (kind_at w)) refl (λ k. ends ws (i + 1) last e (arity_of w) k) h

-- the word at place i of the words xs, and those behind it
module _ (xs : List ℕ) (i w : ℕ) (ws : List ℕ) (d : w ∷ ws ≡ drop i xs) where
  here : w ≡ get_or xs i 0
  here = let n : i + 0 ≡ i = omega arith in ap (λ l. get_or l 0 0) d ∙ get_or-drop i xs 0 0 ∙ ap (λ j. get_or xs j 0) n

  onward : ws ≡ drop (i + 1) xs
  onward = ap (drop 1) d ∙ drop-drop 1 i xs

module _ (xs : List ℕ) where
  goes_on_here :
      (w : ℕ) (ws : List ℕ) (i last e q : ℕ) (b : Bool) → value_kind (kind_at w) ≡ b → w ∷ ws ≡ drop i xs →
      (unfinished (i + 1) e (arity_of w) ws ≡ Some q → GoesOn xs ws (i + 1) last e (arity_of w) q) →
      cond b (unfinished (i + 1) e (arity_of w) ws) (Some i) ≡ Some q → GoesOn xs (w ∷ ws) i last (suc e) 0 q
  goes_on_here w ws i last e q true v d more h = let m = more h in record { walked = rw v m.walked; paused = rw v m.paused }
  goes_on_here w ws i last e q false v d more h =
      let k : i ≡ q = cc in
      let f : w ≡ get_or xs q 0 = here xs i w ws d ∙ ap (λ j. get_or xs j 0) k in
      let r : ws ≡ drop (q + 1) xs = onward xs i w ws d ∙ ap (λ j. drop (j + 1) xs) k in
      record {
        walked = rw v (λ j. cond (eqb (kind_at (f j)) 14) last (walk (k j + 1) (k j) (evaluated_of (f j)) 0 (r j)));
        paused = rw v (λ j. cond (eqb (kind_at (f j)) 14) (Some (k j)) None);
      }

  goes_on :
      (ws : List ℕ) (i last left skip q : ℕ) → ws ≡ drop i xs → unfinished i left skip ws ≡ Some q → GoesOn xs ws i last left skip q
  goes_on [] i last left skip q d h = absurd (none-some q h)
  goes_on (w ∷ ws) i last left (suc s) q d h =
      let m = goes_on ws (i + 1) last left (s + arity_of w) q (onward xs i w ws d) h in record { walked = m.walked; paused = m.paused }
  goes_on (w ∷ ws) i last zero zero q d h = absurd (none-some q h)
  goes_on (w ∷ ws) i last (suc e) zero q d h =
      goes_on_here w ws i last e q (value_kind (kind_at w)) refl d
      (λ k. goes_on ws (i + 1) last e (arity_of w) q (onward xs i w ws d) k) h

if_so : (b : Bool) (q : ℕ) → cond b (Some q) None ≡ then_some b q
if_so true q = refl
if_so false q = refl

-- from place i of the words xs on
module _ (xs : List ℕ) (i left : ℕ) where
  pub walk_ends : (last : ℕ) → unfinished i left 0 (drop i xs) ≡ None → walk i last left 0 (drop i xs) ≡ last
  walk_ends last h = (ends (drop i xs) i last left 0 h).walked

  pub pause_ends : unfinished i left 0 (drop i xs) ≡ None → pause_at i left 0 (drop i xs) ≡ None
  pause_ends h = (ends (drop i xs) i 0 left 0 h).none

  module _ (q : ℕ) (h : unfinished i left 0 (drop i xs) ≡ Some q) (b : Bool) (s : b ≡ eqb (kind_at (get_or xs q 0)) 14) where
    pub walk_goes_on :
        (last : ℕ) →
        walk i last left 0 (drop i xs) ≡ cond b last (walk (q + 1) q (evaluated_of (get_or xs q 0)) 0 (drop (q + 1) xs))
    walk_goes_on last = rw s (goes_on xs (drop i xs) i last left 0 q refl h).walked

    pub pause_found : pause_at i left 0 (drop i xs) ≡ then_some b q
    pause_found = (goes_on xs (drop i xs) i 0 left 0 q refl h).paused ∙ ap (λ t. cond t (Some q) None) (sym s) ∙ if_so b q
