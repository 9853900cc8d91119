-- Words written one after another, and the parts of words that are written.
use Rattle.std.proofs.Common.{◌≡◌, ℕ, ◌+◌, ◌-◌, List, ◌∷◌, ◌++◌, length, get_or, take, drop, sym, refl, ap, ◌∙◌, subst, ⊎_elim, add-zero, arith, length-append}
use Rattle.std.specs.List.{between}
use Rattle.std.proofs.lemmas.List.{get_or-drop, drop-drop, drop_at, take_at}
use Rattle.std.proofs.lemmas.Bool.{cases_lt}
use Rattle.writing.specs.Writing.{Built}
use Rattle.writing.proofs.Puts.{put_put}

-- one after another
pub then : (a b c : List ℕ) (at : ℕ) (x y : List ℕ) (e f : ℕ) → Built a at x b e → Built b e y c f → Built a at (x ++ y) c f
then a b c at x y e f p q =
    let s = p.same in
    let l = length-append x y in
    record {
      cap = omega (arith, q.cap);
      same = q.same ∙ s;
      put = λ h. let r = q.put (omega arith) in put_put a b c at x y e f (p.put (omega (arith, r.ends))) r;
      full = λ h.
          ⊎_elim (λ lt. omega (arith, p.full lt)) (λ ge. omega (arith, (p.put ge).ends, q.full (omega arith)))
          (cases_lt (length a) e);
    }

infixr 20 ◌▸◌
pub ◌▸◌ : {a b c : List ℕ} {at : ℕ} {x y : List ℕ} {e f : ℕ} → Built a at x b e → Built b e y c f → Built a at (x ++ y) c f
◌▸◌ {a} {b} {c} {at} {x} {y} {e} {f} p q = then a b c at x y e f p q

-- the same words, otherwise put
pub rewritten : {a b : List ℕ} {at : ℕ} {x y : List ℕ} {e : ℕ} → x ≡ y → Built a at x b e → Built a at y b e
rewritten {a} {b} {at} {x} {y} {e} q p = subst (λ l. Built a at l b e) q p

-- the words that stand at a place, and what stands behind them
pub cut :
    (ws xs rest : List ℕ) (i e : ℕ) → e ≡ i + length xs → drop i ws ≡ xs ++ rest → (between i e ws ≡ xs) × (drop e ws ≡ rest)
cut ws xs rest i e q h =
    let k : e - i ≡ length xs = omega arith in (
      (λ j. take (k j) (h j)) ∙ take_at xs rest (length xs) refl,
      ap (λ j. drop j ws) q ∙ sym (drop-drop (length xs) i ws) ∙ ap (drop (length xs)) h ∙ drop_at xs rest (length xs) refl,
    )

-- the word that stands at a place, and what stands behind it
pub next_word : (ws : List ℕ) (i w : ℕ) (xs : List ℕ) → drop i ws ≡ w ∷ xs → (get_or ws i 0 ≡ w) × (drop (i + 1) ws ≡ xs)
next_word ws i w xs e = (
  ap (λ k. get_or ws k 0) (sym (add-zero i)) ∙ sym (get_or-drop i ws 0 0) ∙ ap (λ l. get_or l 0 0) e,
  sym (drop-drop 1 i ws) ∙ ap (drop 1) e,
)
