-- Words taken over from behind the first word of one slice to behind the first word of another.
use Rattle.std.proofs.Common.{◌≡◌, ℕ, suc, ◌-◌, ◌<◌, ◌≤◌, List, [], ◌∷◌, ◌++◌, length, take, drop, set, replicate, sym, ap, ◌∙◌, append-nil, arith}
use borrow.Rule.Slice.PartMut.{put_mid}
use Rattle.std.proofs.lemmas.List.{drop_all, take_rest, length-drop}
use Rattle.writing.specs.Writing.{Put}

-- all words but the first
pub tail_put : (w : ℕ) (ws ys : List ℕ) (n : ℕ) → length ws ≤ n → put_mid 1 n (w ∷ ws) ys ≡ w ∷ ys
tail_put w ws ys n h = ap (λ l. w ∷ (ys ++ l)) (drop_all n ws h) ∙ ap (λ l. w ∷ l) (append-nil ys)

-- all words but the first, and the first before or after them
pub first_then_tail :
    (image ys : List ℕ) (w : ℕ) → 0 < length image → put_mid 1 (length image - 1) (set image 0 w) ys ≡ w ∷ ys
first_then_tail [] ys w h = absurd (omega arith)
first_then_tail (x ∷ xs) ys w h = tail_put w xs ys (length (x ∷ xs) - 1) (omega arith)

pub tail_then_first :
    (image ys : List ℕ) (w : ℕ) → 0 < length image → set (put_mid 1 (length image - 1) image ys) 0 w ≡ w ∷ ys
tail_then_first [] ys w h = absurd (omega arith)
tail_then_first (x ∷ xs) ys w h = ap (λ l. set l 0 w) (tail_put x xs ys (length (x ∷ xs) - 1) (omega arith))

-- what was written behind the first word
behind_first :
    (w : ℕ) (new spare' : List ℕ) (e n : ℕ) → e ≡ suc n → e ≤ length spare' → take e spare' ≡ w ∷ new → take n (drop 1 spare') ≡ new
behind_first w new [] e n k r f = absurd (omega arith)
behind_first w new (x ∷ xs) e n k r f = ap (drop 1) (sym (ap (λ m. take m (x ∷ xs)) k) ∙ f)

pub put_behind_first :
    (spare new spare' : List ℕ) (e n : ℕ) → 0 < length spare → Put spare 1 new spare' e → n ≡ e - 1 → take n (drop 1 spare') ≡ new
put_behind_first [] new spare' e n h p k = absurd (omega arith)
put_behind_first (w ∷ ws) new spare' e n h p k = behind_first w new spare' e n (omega (arith, p.ends)) p.room p.front

-- a slice from its second word on
module _ (image spare new spare' tail' : List ℕ) (e n : ℕ) (h : 0 < length spare) (p : Put spare 1 new spare' e) (k : n ≡ e - 1)
    (t : tail'
    ≡ take n (take (length spare' - 1) (drop 1 spare')) ++ replicate (length (take (length image - 1) (drop 1 image)) - n) 0) where
  zeros_left : length (take (length image - 1) (drop 1 image)) - n ≡ length image - suc (length new)
  zeros_left = omega (arith, ap length (take_rest image 1), length-drop 1 image, p.ends)

  pub tail_taken_over : tail' ≡ new ++ replicate (length image - suc (length new)) 0
  tail_taken_over =
      t ∙ ap (λ l. take n l ++ replicate (length (take (length image - 1) (drop 1 image)) - n) 0) (take_rest spare' 1)
      ∙ (λ i. put_behind_first spare new spare' e n h p k i ++ replicate (zeros_left i) 0)

  -- and the first word after it
  pub taken_over :
      (w : ℕ) → 0 < length image →
      set (put_mid 1 (length image - 1) image tail') 0 w ≡ w ∷ (new ++ replicate (length image - suc (length new)) 0)
  taken_over w g = tail_then_first image tail' w g ∙ ap (λ l. w ∷ l) tail_taken_over

-- a term behind the first word, and the first word after it
pub opened :
    (image term tail' : List ℕ) (w : ℕ) → 0 < length image →
    tail' ≡ term ++ replicate (length (take (length image - 1) (drop 1 image)) - length term) 0 →
    set (put_mid 1 (length image - 1) image tail') 0 w ≡ w ∷ (term ++ replicate (length image - suc (length term)) 0)
opened image term tail' w g t =
    let z : length (take (length image - 1) (drop 1 image)) - length term ≡ length image - suc (length term) =
    omega (arith, ap length (take_rest image 1), length-drop 1 image) in
    tail_then_first image tail' w g ∙ ap (λ l. w ∷ l) (t ∙ ap (λ n. term ++ replicate n 0) z)
