-- What a call goes on with where the words are an image.
use Rattle.std.proofs.Common.{◌≡◌, ℕ, Bool, true, false, cond, not, ◌||◌, leb, List, length, Ok, Err, refl, ap, ◌∙◌}
use Rattle.std.proofs.lemmas.Bool.{le-leb, and_from, eq-eqb, ne_eqb}
use Rattle.faults.specs.declared.numbers.FaultNumber.TheVariants.{ImageLength, SpareLength, OtherState}
use Rattle.faults.specs.Faults.{fault_of}
use Rattle.calculus.specs.Terms.{Term, is_value, is_suspension}
use Rattle.calculus.specs.Configurations.{Configuration}
use Rattle.image.specs.Images.{fewest_words, most_words, Image}
use Rattle.image.specs.Stepping.{rests}
use Rattle.image.specs.Reading.{reading}
use Rattle.image.proofs.Exact.{image_reads}
use Rattle.calls.specs.States.{Status, going, offering, ended, status_of, is_of}
use Rattle.calls.specs.Entry.{allowed_length, on_spare, of_status, entered, entered_with}

-- a term is of its own state
pub own_status : (t : Term) (s : Status) → s ≡ status_of t → is_of s t ≡ true
own_status t s e = by_tests (is_value t) (is_suspension t) refl refl s e
  where
    by_tests : (v u : Bool) → is_value t ≡ v → is_suspension t ≡ u → (s : Status) → s ≡ cond v ended (cond u offering going) → is_of s t ≡ true
    by_tests true u a b going e = cc
    by_tests true u a b offering e = cc
    by_tests true u a b ended e = a
    by_tests false true a b going e = cc
    by_tests false true a b offering e = b
    by_tests false true a b ended e = cc
    by_tests false false a b going e = rw (a, b)
    by_tests false false a b offering e = cc
    by_tests false false a b ended e = cc

-- what neither is a value nor a suspension is going
pub going_status : (t : Term) → rests t ≡ false → status_of t ≡ going
going_status t h = by_tests (is_value t) (is_suspension t) h
  where
    by_tests : (v u : Bool) → (v || u) ≡ false → cond v ended (cond u offering going) ≡ going
    by_tests true u e = cc
    by_tests false true e = cc
    by_tests false false e = refl

-- and the other way round
pub going_rests : (t : Term) → is_of going t ≡ true → rests t ≡ false
going_rests t h = by (rests t) h
  where
    by : (b : Bool) → not b ≡ true → b ≡ false
    by true e = cc
    by false e = refl

module _ (image : List ℕ) (c : Configuration) (m : Image image c) where
  pub length_allowed : allowed_length (length image) ≡ true
  length_allowed =
      and_from (leb fewest_words (length image)) (leb (length image) most_words)
      (le-leb fewest_words (length image) m.fits.low) (le-leb (length image) most_words m.fits.high)

  module _ (s : Status) (e : s ≡ status_of c.term) where
    found : of_status s (reading image) ≡ Ok c
    found =
        ap (of_status s) (image_reads image c m)
        ∙ ap (λ b. cond b (Ok c) (Err (fault_of OtherState 0))) (own_status c.term s e)

    pub enters : entered s image ≡ Ok c
    enters = ap (λ b. cond b (of_status s (reading image)) (Err (fault_of ImageLength 0))) length_allowed ∙ found

    -- with a spare of the same length
    pub enters_with : (k : ℕ) → k ≡ length image → entered_with s image k ≡ Ok c
    enters_with k h =
        ap (λ b. cond b (on_spare k (length image) (of_status s (reading image))) (Err (fault_of ImageLength 0))) length_allowed
        ∙ ap (λ b. cond b (of_status s (reading image)) (Err (fault_of SpareLength 0))) (eq-eqb k (length image) h) ∙ found

  -- with a spare of another length
  pub enters_not : (s : Status) (k : ℕ) → (k ≡ length image → ⊥) → entered_with s image k ≡ Err (fault_of SpareLength 0)
  enters_not s k h =
      ap (λ b. cond b (on_spare k (length image) (of_status s (reading image))) (Err (fault_of ImageLength 0))) length_allowed
      ∙ ap (λ b. cond b (of_status s (reading image)) (Err (fault_of SpareLength 0))) (ne_eqb k (length image) h)
