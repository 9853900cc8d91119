-- What is written to an image is what the step comes to.
use Rattle.std.proofs.Common.{◌≡◌, ℕ, zero, suc, ◌+◌, ◌-◌, ◌<◌, ◌≤◌, true, false, cond, ltb, List, [], ◌∷◌, ◌++◌, length, take, drop, set, replicate, Some, None, Ok, Err, Option, Result, sym, ap, ◌∙◌, subst, arith, length-drop, length-set}
use Rattle.std.specs.List.{between}
use Rattle.std.proofs.lemmas.Slice.{between_to_end}
use Rattle.std.proofs.lemmas.Bool.{lt-ltb, le-ltb}
use Rattle.faults.specs.declared.Fault.{Fault}
use Rattle.faults.specs.declared.numbers.FaultNumber.TheVariants.{Labels, ImageFull, NoRule}
use Rattle.faults.specs.Faults.{fault_of}
use Rattle.calculus.specs.Configurations.{Configuration}
use Rattle.calculus.specs.Occurrences.{word_at}
use Rattle.calculus.specs.Places.{path, place}
use Rattle.layout.specs.declared.Word.TheVariants as W
use Rattle.layout.specs.Layout.{word_of}
use Rattle.encoding.specs.Encoding.{Stands}
use Rattle.encoding.proofs.Places.{stands_from}
use Rattle.image.specs.Images.{most_bindings, words_of, used, image_of, Image}
use Rattle.image.specs.Stepping.{step_result}
use Rattle.image.proofs.Whole.{laid}
use Rattle.writing.specs.Writing.{Put}
use Rattle.lines.specs.Lines.{Turned}
use Rattle.steps.specs.Stepped.{StepWritten}

-- the term of an image stands at word 1
pub term_stands : (image : List ℕ) (c : Configuration) → Image image c → Stands c.term image 1
term_stands image c m = stands_from c.term image 1 _ m.encodable.term_fits (laid image c m).rest

pub place_is : (p : ℕ) (c : Configuration) → p ≡ 1 + word_at c.term (path c.term) → p ≡ place c.term
place_is p c e = omega arith

-- what was written from word 1 on
written_tail : (spare new written : List ℕ) (e : ℕ) → 1 ≤ length spare → Put spare 1 new written e → take (e - 1) (drop 1 written) ≡ new
written_tail [] new written e l p = absurd (omega arith)
written_tail (y ∷ ys) new [] e l p = absurd (omega (arith, p.room, p.ends))
written_tail (y ∷ ys) new (x ∷ xs) zero l p = absurd (omega (arith, p.ends))
written_tail (y ∷ ys) new (x ∷ xs) (suc e) l p =
    let f : x ∷ take e xs ≡ y ∷ new = p.front in
    let g : take e xs ≡ new = cc in
    let k : suc e - 1 ≡ e = omega arith in
    ap (λ n. take n xs) k ∙ g

-- the same, as it stands in the parts behind the first words of both
pub tail_written : (image written ys : List ℕ) (w n e : ℕ) →
    ys ≡ take n (between 1 (length written) written) ++ replicate (length (between 1 (length (set image 0 w)) (set image 0 w)) - n) 0 →
    n ≡ e - 1 → ys ≡ take (e - 1) (drop 1 written) ++ replicate (length (drop 1 image) - (e - 1)) 0
tail_written image written ys w n e h k =
    let s : List ℕ = set image 0 w in
    let a = between_to_end written 1 (length written) (omega arith) in
    let b = between_to_end s 1 (length s) (omega arith) in
    let c : length (between 1 (length s) s) - n ≡ length (drop 1 image) - (e - 1) =
    omega (arith, ap length b, length-drop 1 s, length-drop 1 image, length-set image 0 w) in
    h ∙ (λ i. take (k i) (a i) ++ replicate (c i) 0)

-- a head and the words written from word 1 on are an image
pub image_written : (image spare written : List ℕ) (e m w : ℕ) (ys : List ℕ) (d : Configuration) → length image ≡ length spare →
    2 ≤ length image → Put spare 1 (words_of d) written e → m ≡ length d.bindings → w ≡ word_of (W.ImageHead e m) →
    ys ≡ take (e - 1) (drop 1 written) ++ replicate (length (drop 1 image) - (e - 1)) 0 → w ∷ ys ≡ image_of (length image) d
image_written image spare written e m w ys d same low b n hw hy =
    let u : e ≡ used d = omega (arith, b.ends) in
    let tail : take (e - 1) (drop 1 written) ≡ words_of d = written_tail spare (words_of d) written e (omega arith) b in
    let zeros : length (drop 1 image) - (e - 1) ≡ length image - used d = omega (arith, u, length-drop 1 image) in
    λ j. (hw ∙ (λ s. word_of (W.ImageHead (u s) (n s)))) j ∷ (hy ∙ (λ s. tail s ++ replicate (zeros s) 0)) j

module _ (image image' spare written : List ℕ) (p : ℕ) (r : Result (Unit {0}) Fault) (same : length image ≡ length spare) (low : 2 ≤ length image) where
  by_result : (x y : Result Configuration Fault) → x ≡ y → StepWritten r image image' y → StepWritten r image image' x
  by_result x y e s = subst (StepWritten r image image') (sym e) s

  -- no line applies
  pub no_rule : (ℓ : Option Configuration) → r ≡ Err (fault_of NoRule p) → image' ≡ image → Turned None spare written ℓ →
      StepWritten r image image' (step_result (length image) p ℓ)
  no_rule ℓ e i t = by_result _ _ (ap (step_result (length image) p) t) (e, i)

  module _ (e m : ℕ) (ℓ : Option Configuration) (t : Turned (Some (e, m)) spare written ℓ) where
    -- the labels are used up
    pub labels : most_bindings < m → r ≡ Err (fault_of Labels p) → image' ≡ image → StepWritten r image image' (step_result (length image) p ℓ)
    labels h g i =
        let d = t.0 in
        let n = t.2 in
        let x : ltb most_bindings (length d.bindings) ≡ true = lt-ltb most_bindings (length d.bindings) (omega arith) in
        let y : Result Configuration Fault = cond (ltb (length image) (used d)) (Err (fault_of ImageFull p)) (Ok d) in
        by_result _ _ (ap (step_result (length image) p) t.1 ∙ ap (λ b. cond b (Err (fault_of Labels p)) y) x) (g, i)

    few_enough : m ≤ most_bindings →
        step_result (length image) p ℓ ≡ cond (ltb (length image) (used t.0)) (Err (fault_of ImageFull p)) (Ok t.0)
    few_enough h =
        let d = t.0 in
        let n = t.2 in
        let x : ltb most_bindings (length d.bindings) ≡ false = le-ltb most_bindings (length d.bindings) (omega arith) in
        let y : Result Configuration Fault = cond (ltb (length image) (used d)) (Err (fault_of ImageFull p)) (Ok d) in
        ap (step_result (length image) p) t.1 ∙ ap (λ b. cond b (Err (fault_of Labels p)) y) x

    -- the image is full
    pub overfull : m ≤ most_bindings → length image < e → r ≡ Err (fault_of ImageFull p) → image' ≡ image →
        StepWritten r image image' (step_result (length image) p ℓ)
    overfull h f g i =
        let b = t.3.full (omega arith) in
        let x : ltb (length image) (used t.0) ≡ true = lt-ltb (length image) (used t.0) (omega (arith, b)) in
        by_result _ _ (few_enough h ∙ ap (λ b. cond b (Err (fault_of ImageFull p)) (Ok t.0)) x) (g, i)

    -- the step is made
    pub is_made : m ≤ most_bindings → e ≤ length image → r ≡ Ok tt → (w : ℕ) (ys : List ℕ) → w ≡ word_of (W.ImageHead e m) →
        ys ≡ take (e - 1) (drop 1 written) ++ replicate (length (drop 1 image) - (e - 1)) 0 → image' ≡ w ∷ ys →
        StepWritten r image image' (step_result (length image) p ℓ)
    is_made k f g w ys hw hy i =
        let d = t.0 in
        let b = t.3.put (omega arith) in
        let x : ltb (length image) (used d) ≡ false = le-ltb (length image) (used d) (omega (arith, b.ends)) in
        by_result _ _ (few_enough k ∙ ap (λ b. cond b (Err (fault_of ImageFull p)) (Ok d)) x)
        (g, i ∙ image_written image spare written e m w ys d same low b t.2 hw hy)
