-- The image of a term with no bindings.
use Rattle.std.proofs.Common.{◌≡◌, ℕ, suc, ◌+◌, ◌-◌, ◌<◌, cond, List, [], ◌∷◌, ◌++◌, length, get_or, drop, replicate, Ok, Err, Result, sym, ap, ◌∙◌, append-nil, arith}
use Rattle.std.proofs.lemmas.Bool.{le-ltb}
use Rattle.faults.specs.declared.Fault.{Fault}
use Rattle.faults.specs.declared.numbers.FaultNumber.TheVariants.{ImageFull}
use Rattle.faults.specs.Faults.{fault_of}
use Rattle.calculus.specs.Terms.{Term}
use Rattle.calculus.specs.Configurations.{◌∣◌}
use Rattle.layout.specs.declared.Word.TheVariants as W
use Rattle.layout.specs.Layout.{word_of}
use Rattle.encoding.specs.Encoding.{encode, Fits, Stands}
use Rattle.encoding.proofs.Places.{stands_from}
use Rattle.image.specs.Images.{used, image_of}
use Rattle.calls.specs.Results.{on_room, open_from}
use Rattle.engine.specs.declared.states.State.{State}
use Rattle.engine.specs.States.{state_of, status_at}
use Rattle.engine.specs.Answers.{opened}
use Rattle.engine.proofs.Entries.{standing_status}

module _ (t : Term) (f : Fits t) (term image image' : List ℕ) (e : term ≡ encode t) (w : ℕ) (h : w ≡ word_of (W.ImageHead (length term + 1) 0)) where
  -- no bindings add no words
  as_many : used (t ∣ []) ≡ suc (length term)
  as_many = ap (λ l. suc (length l)) (append-nil (encode t) ∙ sym e)

  is_image : image' ≡ w ∷ (term ++ replicate (length image - suc (length term)) 0) → image' ≡ image_of (length image) (t ∣ [])
  is_image g =
      let k : suc (length term) ≡ length term + 1 = omega arith in
      g ∙ ap (λ x. x ∷ (term ++ replicate (length image - suc (length term)) 0)) (h ∙ ap (λ n. word_of (W.ImageHead n 0)) (sym k ∙ sym as_many))
      ∙ (λ i. word_of (W.ImageHead (used (t ∣ [])) 0) ∷ ((e ∙ sym (append-nil (encode t))) i ++ replicate (length image - sym as_many i) 0))

  stands : image' ≡ w ∷ (term ++ replicate (length image - suc (length term)) 0) → Stands t image' 1
  stands g =
      stands_from t image' 1 (replicate (length image - suc (length term)) 0) f
      (ap (drop 1) g ∙ ap (λ l. l ++ replicate (length image - suc (length term)) 0) e)

  pub opens :
      image' ≡ w ∷ (term ++ replicate (length image - suc (length term)) 0) → length term < length image → (s : State) →
      s ≡ state_of (status_at (get_or image' 1 0)) →
      let o = open_from image (on_room (length image) (Ok t)) in
      (◌≡◌ {A = Result State Fault} (Ok s) (opened o.answer)) × (image' ≡ o.image)
  opens g r s q =
      let k : on_room (length image) (Ok t) ≡ Ok t =
      ap (λ b. cond b (Err (fault_of ImageFull 0)) (Ok t)) (le-ltb (length image) (used (t ∣ [])) (omega (arith, as_many))) in (
        ap Ok (q ∙ ap state_of (standing_status t image' 1 (stands g))) ∙ sym (ap (λ x. opened (open_from image x).answer) k),
        is_image g ∙ sym (ap (λ x. (open_from image x).image) k),
      )
