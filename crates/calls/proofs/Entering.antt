-- A call is entered or refused, said of configurations.
use Rattle.std.proofs.Common.{◌≡◌, ℕ, Bool, true, false, cond, eqb, leb, ◌⊎◌, List, length, Some, None, Ok, Err, Option, Result, sym, refl, ap, ◌∙◌, inl, inr, arith}
use Rattle.std.proofs.lemmas.Bool.{le-leb, leb-true, and_from, and_parts, eqb-true, eqb-false, eq-eqb, both_ways}
use Rattle.faults.specs.declared.Fault.{Fault}
use Rattle.faults.specs.declared.numbers.FaultNumber.TheVariants.{ImageLength, SpareLength, NotImage, OtherState}
use Rattle.faults.specs.Faults.{fault_of}
use Rattle.calculus.specs.Terms.{Term, is_value, is_suspension}
use Rattle.calculus.specs.Configurations.{Configuration}
use Rattle.image.specs.Images.{fewest_words, most_words, Image}
use Rattle.image.specs.Reading.{reading}
use Rattle.image.proofs.Exact.{image_reads, reads_image}
use Rattle.calls.specs.States.{Status, going, offering, ended, status_of, is_of}
use Rattle.calls.specs.Entry.{allowed_length, on_length, of_status, entered, entered_with}
use Rattle.calls.specs.Refusals.{LengthAllowed, NotEntered, image_length, spare_length, not_image, other_state}
use Rattle.calls.proofs.Entered.{own_status, going_status, going_rests}
use Rattle.calls.proofs.Points.{suspends}

-- what is of a state has that state
pub of_its_state : (s : Status) (t : Term) → is_of s t ≡ true → status_of t ≡ s
of_its_state going t e = going_status t (going_rests t e)
of_its_state offering t e =
    let k = suspends t e in
    let v : is_value t ≡ false = ap is_value k.2 in
    ap (λ b. cond b ended (cond (is_suspension t) offering going)) v ∙ ap (λ b. cond b offering going) e
of_its_state ended t e = ap (λ b. cond b ended (cond (is_suspension t) offering going)) e

pub length_tests : (n : ℕ) → allowed_length n ≡ true → LengthAllowed n
length_tests n e =
    let p = and_parts (leb fewest_words n) (leb n most_words) e in (leb-true fewest_words n p.0, leb-true n most_words p.1)

pub length_fails : (n : ℕ) → allowed_length n ≡ false → LengthAllowed n → ⊥
length_fails n e h =
    both_ways (allowed_length n) e
    (and_from (leb fewest_words n) (leb n most_words) (le-leb fewest_words n h.0) (le-leb n most_words h.1))

-- what a call goes on with: a configuration of its state
pub record Enters (s : Status) (image : List ℕ) (c : Configuration) : Type 0 where
  pub is_image : Image image c
  pub in_state : status_of c.term ≡ s

-- refused, or entered
abbrev pub Entry : Status → List ℕ → ℕ → Result Configuration Fault → Type 0
Entry s image spare r =
    ((f : Fault) × NotEntered s image spare f × (r ≡ Err f)) ⊎ ((c : Configuration) × Enters s image c × (spare ≡ length image) × (r ≡ Ok c))

module _ (s : Status) (image : List ℕ) (spare : ℕ) (allowed : LengthAllowed (length image)) (same : spare ≡ length image) where
  by_reading : (o : Option Configuration) → reading image ≡ o → Entry s image spare (of_status s o)
  by_reading None e = inl (fault_of NotImage 0, not_image allowed same none, refl)
    where
      none : (c : Configuration) → Image image c → ⊥
      none c m = let k = image_reads image c m in let z : ◌≡◌ {A = ℕ} 0 1 = cc in omega arith
  by_reading (Some c) e = by (is_of s c.term) refl
    where
      by : (b : Bool) → is_of s c.term ≡ b → Entry s image spare (cond b (Ok c) (Err (fault_of OtherState 0)))
      by true k = inr (c, record { is_image = reads_image image c e; in_state = of_its_state s c.term k }, same, refl)
      by false k =
          inl (fault_of OtherState 0, other_state c same (reads_image image c e) (λ h. both_ways (is_of s c.term) k (own_status c.term s (sym h))), refl)

-- with a spare
pub enters_or_not : (s : Status) (image : List ℕ) (spare : ℕ) → Entry s image spare (entered_with s image spare)
enters_or_not s image spare = by_lengths (allowed_length (length image)) (eqb spare (length image)) refl refl
  where
    by_lengths : (a b : Bool) → allowed_length (length image) ≡ a → eqb spare (length image) ≡ b →
        Entry s image spare (cond a (cond b (of_status s (reading image)) (Err (fault_of SpareLength 0))) (Err (fault_of ImageLength 0)))
    by_lengths true true p q =
        by_reading s image spare (length_tests (length image) p) (eqb-true spare (length image) q) (reading image) refl
    by_lengths true false p q =
        inl (fault_of SpareLength 0, spare_length (length_tests (length image) p) (eqb-false spare (length image) q), refl)
    by_lengths false b p q = inl (fault_of ImageLength 0, image_length (length_fails (length image) p), refl)

-- without one it is as with one of the image's length
pub enters_alike : (s : Status) (image : List ℕ) → entered s image ≡ entered_with s image (length image)
enters_alike s image =
    ap (λ b. on_length (length image) (cond b (of_status s (reading image)) (Err (fault_of SpareLength 0))))
    (sym (eq-eqb (length image) (length image) refl))
