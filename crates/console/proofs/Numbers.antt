-- How the number of digits comes digit by digit.
use Rattle.std.proofs.Common.{◌≡◌, ℕ, ◌+◌, ◌*◌, ◌<◌, ◌≤◌, Bool, true, false, cond, ◌&&◌, leb, List, [], ◌∷◌, length, get_or, drop, Some, None, Option, unwrap_or, sym, refl, ap, ◌∙◌, le_trans, mul-le-mul_left, mul-one, add-one, arith, drop_of_length-le, drop-cons, le-ltb, lt-ltb, le-leb}
use borrow.Author.Tests.{lt-leb}
use Rattle.console.specs.Digits.{digit, below, all_digits, value_from, number_from}

-- the number, where the first byte is the digit o
abbrev number_with : ℕ → ℕ → ℕ → Option ℕ → List ℕ → Option ℕ
number_with base limit v o bs =
    cond (below base o && all_digits base bs && leb (value_from base (v * base + unwrap_or o 0) bs) limit) (Some (value_from base (v * base + unwrap_or o 0) bs)) None

-- the rest at a place begins with the byte there
at_place : (base limit v i : ℕ) (bs : List ℕ) → i < length bs → number_from base limit v (drop i bs) ≡ number_with base limit v (digit (get_or bs i 0)) (drop (i + 1) bs)
at_place base limit v i bs h =
    ap (number_from base limit v) (drop-cons bs i 0 h)
    ∙ ap (λ k. number_with base limit v (digit (get_or bs i 0)) (drop k bs)) (sym (add-one i))

pub one_more : (base limit v i d : ℕ) (bs : List ℕ) → i < length bs → Some d ≡ digit (get_or bs i 0) → d < base → number_from base limit v (drop i bs) ≡ number_from base limit (v * base + d) (drop (i + 1) bs)
one_more base limit v i d bs h e l =
    at_place base limit v i bs h
    ∙ ap (λ o. number_with base limit v o (drop (i + 1) bs)) (sym e)
    ∙ ap (λ t. cond (t && all_digits base (drop (i + 1) bs) && leb (value_from base (v * base + d) (drop (i + 1) bs)) limit) (Some (value_from base (v * base + d) (drop (i + 1) bs))) None) (lt-ltb d base l)

pub no_digit : (base limit v i : ℕ) (bs : List ℕ) → i < length bs → None ≡ digit (get_or bs i 0) → None ≡ number_from base limit v (drop i bs)
no_digit base limit v i bs h e =
    sym (at_place base limit v i bs h ∙ ap (λ o. number_with base limit v o (drop (i + 1) bs)) (sym e))

pub large_digit : (base limit v i d : ℕ) (bs : List ℕ) → i < length bs → Some d ≡ digit (get_or bs i 0) → base ≤ d → None ≡ number_from base limit v (drop i bs)
large_digit base limit v i d bs h e l =
    sym
    (at_place base limit v i bs h
    ∙ ap (λ o. number_with base limit v o (drop (i + 1) bs)) (sym e)
    ∙ ap (λ t. cond (t && all_digits base (drop (i + 1) bs) && leb (value_from base (v * base + d) (drop (i + 1) bs)) limit) (Some (value_from base (v * base + d) (drop (i + 1) bs))) None) (le-ltb d base l))

more : (v base : ℕ) → 1 ≤ base → v ≤ v * base
more v base h = let m = mul-le-mul_left v h in let e = mul-one v in omega arith

grows : (base v : ℕ) (bs : List ℕ) → 1 ≤ base → v ≤ value_from base v bs
grows base v [] h = omega arith
grows base v (b ∷ bs) h =
    let m = more v base h in
    let g = grows base (v * base + unwrap_or (digit b) 0) bs h in
    le_trans (le_trans m (omega arith)) g

and_false : {X : Type 0} (a : Bool) (x y : X) → cond (a && false) x y ≡ y
and_false true x y = refl
and_false false x y = refl

-- a number over the limit stays over it
over : (base limit v : ℕ) (bs : List ℕ) → 1 ≤ base → limit < v → number_from base limit v bs ≡ None
over base limit v bs h l =
    let g = grows base v bs h in
    ap (λ t. cond (all_digits base bs && t) (Some (value_from base v bs)) None) (lt-leb (value_from base v bs) limit (omega arith))
    ∙ and_false (all_digits base bs) (Some (value_from base v bs)) None

pub at_end : (base limit v i : ℕ) (bs : List ℕ) → length bs ≤ i → v ≤ limit → number_from base limit v (drop i bs) ≡ Some v
at_end base limit v i bs h l =
    ap (number_from base limit v) (drop_of_length-le bs h)
    ∙ ap (λ t. cond t (Some v) None) (le-leb v limit l)

pub too_large : (base limit v i d : ℕ) (bs : List ℕ) → i < length bs → Some d ≡ digit (get_or bs i 0) → d < base → limit < v * base + d → None ≡ number_from base limit v (drop i bs)
too_large base limit v i d bs h e l m =
    sym (one_more base limit v i d bs h e l ∙ over base limit (v * base + d) (drop (i + 1) bs) (omega arith) m)
