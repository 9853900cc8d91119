-- Words put into a slice, one after another.
use Rattle.std.proofs.Common.{◌≡◌, ℕ, ◌+◌, ◌-◌, ◌≤◌, List, ◌++◌, length, take, drop, sym, refl, ap, ◌∙◌, ap₂, append_assoc, arith, length-append}
use borrow.Rule.Slice.PartMut.{put_mid}
use Rattle.std.proofs.lemmas.List.{drop-drop, length-take-le, length-drop}
use Rattle.std.proofs.lemmas.Slice.{take-put_mid, drop-put_mid}
use Rattle.writing.specs.Writing.{Put}

-- what lies behind a place lies behind a later one
pub further : (out d : List ℕ) (to m : ℕ) → drop to out ≡ drop to d → drop (to + m) out ≡ drop (to + m) d
further out d to m e = sym (drop-drop m to out) ∙ ap (drop m) e ∙ drop-drop m to d

pub length_put_mid : (a : ℕ) (xs ys : List ℕ) → a + length ys ≤ length xs → length (put_mid a (length ys) xs ys) ≡ length xs
length_put_mid a xs ys h =
    let t = take a xs in
    let r = drop (length ys) (drop a xs) in
    let n = length-take-le a xs (omega arith) in
    omega (arith, n, length-append t (ys ++ r), length-append ys r, length-drop (length ys) (drop a xs), length-drop a xs)

-- the part `out[to..to + n]` after a copy
pub same_part : (out ys vs : List ℕ) (to : ℕ) → ys ≡ vs → put_mid to (to + length vs - to) out ys ≡ put_mid to (length vs) out vs
same_part out ys vs to e = let f : to + length vs - to ≡ length vs = omega arith in ap₂ (λ m l. put_mid to m out l) f e

pub put_is :
    (out : List ℕ) (at : ℕ) (new out' : List ℕ) → at + length new ≤ length out → out' ≡ put_mid at (length new) out new →
    Put out at new out' (at + length new)
put_is out at new out' h e =
    record {
      ends = refl;
      room = omega (arith, length_put_mid at out new h, ap length e);
      front = ap (take (at + length new)) e ∙ take-put_mid at (length new) out new (at + length new) refl (omega arith);
      behind = ap (drop (at + length new)) e ∙ drop-put_mid at (length new) out new (at + length new) (omega arith) (omega arith) refl;
    }

-- one after another
pub put_put : (a b c : List ℕ) (at : ℕ) (x y : List ℕ) (e f : ℕ) → Put a at x b e → Put b e y c f → Put a at (x ++ y) c f
put_put a b c at x y e f p q =
    let m : e + length y ≡ f = sym q.ends in
    record {
      ends = omega (arith, p.ends, q.ends, length-append x y);
      room = q.room;
      front = q.front ∙ ap (λ l. l ++ y) p.front ∙ append_assoc (take at a) x y;
      behind = q.behind ∙ ap (λ k. drop k b) (sym m) ∙ further b a e (length y) p.behind ∙ ap (λ k. drop k a) m;
    }
