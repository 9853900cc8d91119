-- One word more of each machine.
use Rattle.std.proofs.Common.{◌≡◌, ℕ, zero, suc, ◌+◌, ◌-◌, ◌%◌, ◌<◌, ◌≤◌, true, false, cond, List, [], ◌∷◌, length, get_or, drop, Some, None, refl, ap, ◌∙◌, arith}
use Rattle.std.proofs.lemmas.List.{at_drop_more, at_drop_all}
use Rattle.encoding.specs.Scanning.{arity_of}
use Rattle.image.specs.Reading.{may_stand, is_binding, reach}
use Rattle.image.specs.Seeking.{seek}

pub reach_end : (n p b i : ℕ) (ws : List ℕ) → length ws ≡ 0 → 0 < p + b → reach n p b i ws ≡ None
reach_end n zero zero i ws e h = absurd (omega arith)
reach_end n zero (suc b) i [] e h = refl
reach_end n (suc p) b i [] e h = refl
reach_end n zero (suc b) i (w ∷ ws) e h = absurd (omega arith)
reach_end n (suc p) b i (w ∷ ws) e h = absurd (omega arith)

pub reach_none : (n p b i : ℕ) (ws : List ℕ) → p + b ≤ 0 → reach n p b i ws ≡ Some i
reach_none n zero zero i ws h = refl
reach_none n zero (suc b) i ws h = absurd (omega arith)
reach_none n (suc p) b i ws h = absurd (omega arith)

pub term_bad : (n p b i w : ℕ) (ws : List ℕ) → 0 < p → may_stand n w ws ≡ false → reach n p b i (w ∷ ws) ≡ None
term_bad n zero b i w ws h e = absurd (omega arith)
term_bad n (suc p) b i w ws h e = ap (λ x. cond x (reach n (p + arity_of w) b (i + 1) ws) None) e

pub term_more :
    (n p b i w : ℕ) (ws : List ℕ) → 0 < p → may_stand n w ws ≡ true →
    reach n p b i (w ∷ ws) ≡ reach n (p - 1 + arity_of w) b (i + 1) ws
term_more n zero b i w ws h e = absurd (omega arith)
term_more n (suc p) b i w ws h e =
    let m : p ≡ suc p - 1 = omega arith in
    ap (λ x. cond x (reach n (p + arity_of w) b (i + 1) ws) None) e ∙ ap (λ j. reach n (j + arity_of w) b (i + 1) ws) m

pub binding_bad : (n p b i w : ℕ) (ws : List ℕ) → p ≤ 0 → 0 < p + b → is_binding w ≡ false → reach n p b i (w ∷ ws) ≡ None
binding_bad n (suc p) b i w ws z h e = absurd (omega arith)
binding_bad n zero zero i w ws z h e = absurd (omega arith)
binding_bad n zero (suc b) i w ws z h e = ap (λ x. cond x (reach n (w % 2) b (i + 1) ws) None) e

pub binding_more :
    (n p b i w : ℕ) (ws : List ℕ) → p ≤ 0 → 0 < p + b → is_binding w ≡ true →
    reach n p b i (w ∷ ws) ≡ reach n (w % 2) (b - 1) (i + 1) ws
binding_more n (suc p) b i w ws z h e = absurd (omega arith)
binding_more n zero zero i w ws z h e = absurd (omega arith)
binding_more n zero (suc b) i w ws z h e =
    let m : b ≡ suc b - 1 = omega arith in
    ap (λ x. cond x (reach n (w % 2) b (i + 1) ws) None) e ∙ ap (λ j. reach n (w % 2) j (i + 1) ws) m

seek_end : (p b i : ℕ) → seek p b i [] ≡ i
seek_end zero zero i = refl
seek_end zero (suc b) i = refl
seek_end (suc p) b i = refl

pub seek_none : (p b i : ℕ) (ws : List ℕ) → p ≤ 0 → b ≤ 0 → seek p b i ws ≡ i
seek_none zero zero i ws h g = refl
seek_none zero (suc b) i ws h g = absurd (omega arith)
seek_none (suc p) b i ws h g = absurd (omega arith)

seek_term : (p b i w : ℕ) (ws : List ℕ) → 0 < p → seek p b i (w ∷ ws) ≡ seek (p - 1 + arity_of w) b (i + 1) ws
seek_term zero b i w ws h = absurd (omega arith)
seek_term (suc p) b i w ws h = let m : p ≡ suc p - 1 = omega arith in ap (λ j. seek (j + arity_of w) b (i + 1) ws) m

seek_binding : (p b i w : ℕ) (ws : List ℕ) → p ≤ 0 → 0 < b → seek p b i (w ∷ ws) ≡ seek (w % 2) (b - 1) (i + 1) ws
seek_binding (suc p) b i w ws h g = absurd (omega arith)
seek_binding zero zero i w ws h g = absurd (omega arith)
seek_binding zero (suc b) i w ws h g = let m : b ≡ suc b - 1 = omega arith in ap (λ j. seek (w % 2) j (i + 1) ws) m

-- behind the first i of the words xs
module _ (xs : List ℕ) (i : ℕ) where
  pub seek_behind : (p b place : ℕ) → length xs ≤ i → seek p b place (drop i xs) ≡ place
  seek_behind p b place h = at_drop_all (seek p b place) xs i h ∙ seek_end p b place

  module _ (h : i < length xs) where
    module _ (p b place : ℕ) where
      pub seek_over_term :
          0 < p → seek p b place (drop i xs) ≡ seek (p - 1 + arity_of (get_or xs i 0)) b (place + 1) (drop (i + 1) xs)
      seek_over_term g = at_drop_more (seek p b place) xs i 0 h ∙ seek_term p b place (get_or xs i 0) (drop (i + 1) xs) g

      pub seek_over_binding :
          p ≤ 0 → 0 < b → seek p b place (drop i xs) ≡ seek (get_or xs i 0 % 2) (b - 1) (place + 1) (drop (i + 1) xs)
      seek_over_binding g k = at_drop_more (seek p b place) xs i 0 h ∙ seek_binding p b place (get_or xs i 0) (drop (i + 1) xs) g k
