-- What the first word of an image's term says of its state, and what is known once a call is entered.
use Rattle.std.proofs.Common.{◌≡◌, ℕ, Bool, true, false, cond, eqb, List, get_or, Ok, Err, sym, refl, ap, ◌∙◌}
use Rattle.faults.specs.declared.numbers.FaultNumber.TheVariants.{OtherState}
use Rattle.faults.specs.Faults.{fault_of}
use Rattle.calculus.specs.Terms.{Term}
use Rattle.calculus.specs.Configurations.{Configuration}
use Rattle.encoding.specs.Encoding.{Stands}
use Rattle.encoding.proofs.Parts.{fits_parts}
use Rattle.encoding.proofs.Places.{first_stands}
use Rattle.image.specs.Images.{Image}
use Rattle.image.specs.Reading.{kind_at, value_kind, is_image, reading}
use Rattle.image.proofs.Whole.{images_are}
use Rattle.image.proofs.Exact.{image_reads}
use Rattle.path.proofs.KindFacts.{value_read, suspension_read}
use Rattle.calls.specs.States.{status_of, is_of}
use Rattle.calls.specs.declared.states.Status.{Status}
use Rattle.calls.specs.declared.states.Status.TheVariants.{Going as going, Offering as offering, Ended as ended}
use Rattle.calls.specs.Entry.{of_status}
use Rattle.calls.proofs.Entered.{own_status}
use Rattle.calls.proofs.Entering.{of_its_state}
use Rattle.calls.proofs.Showing.{term_stands}
use Rattle.engine.specs.States.{status_at}
use Rattle.engine.specs.Entry.{passed}

-- the first word of a term says its state
pub standing_status : (t : Term) (ws : List ℕ) (i : ℕ) → Stands t ws i → status_at (get_or ws i 0) ≡ status_of t
standing_status t ws i s =
    let f = (fits_parts t s.0).0 in
    let w = first_stands t ws i s in
    λ j. cond ((ap (λ x. value_kind (kind_at x)) w ∙ value_read t f) j) ended
    (cond ((ap (λ x. eqb (kind_at x) 14) w ∙ suspension_read t f) j) offering going)

module _ (image : List ℕ) (c : Configuration) (m : Image image c) where
  -- word 1 says the state of the term
  pub first_status : status_at (get_or image 1 0) ≡ status_of c.term
  first_status = standing_status c.term image 1 (term_stands image c m)

module _ (image : List ℕ) (wanted : Status) where
  -- an image, by whether its term is of the wanted state
  by_state : (c : Configuration) → Image image c → (b : Bool) → is_of wanted c.term ≡ b →
      cond b (Ok tt) (Err (fault_of OtherState 0)) ≡ passed (of_status wanted (reading image))
  by_state c m b h =
      tested b ∙ ap (λ x. passed (cond x (Ok c) (Err (fault_of OtherState 0)))) (sym h)
      ∙ ap (λ r. passed (of_status wanted r)) (sym (image_reads image c m))
    where
      tested : (b : Bool) → cond b (Ok tt) (Err (fault_of OtherState 0)) ≡ passed (cond b (Ok c) (Err (fault_of OtherState 0)))
      tested true = refl
      tested false = refl

  pub other_state : is_image image ≡ true → (status_at (get_or image 1 0) ≡ wanted → ⊥) →
      Err (fault_of OtherState 0) ≡ passed (of_status wanted (reading image))
  other_state i h = let c = images_are image i in by_state c.0 c.1 false (by c.0 c.1 (is_of wanted c.0.term) refl)
    where
      by : (c : Configuration) → Image image c → (b : Bool) → is_of wanted c.term ≡ b → is_of wanted c.term ≡ false
      by c m true e = absurd (h (first_status image c m ∙ of_its_state wanted c.term e))
      by c m false e = e

  pub that_state : is_image image ≡ true → status_at (get_or image 1 0) ≡ wanted → Ok tt ≡ passed (of_status wanted (reading image))
  that_state i h =
      let c = images_are image i in
      by_state c.0 c.1 true (own_status c.0.term wanted (sym h ∙ first_status image c.0 c.1))
