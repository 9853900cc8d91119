-- The value that is shown stands in the image.
use Rattle.std.proofs.Common.{◌≡◌, ℕ, ◌-◌, Bool, true, false, cond, List, ◌++◌, length, drop, replicate, Some, None, Ok, Err, Option, Result, sym, refl, ap, ◌∙◌, subst, append_assoc, arith}
use Rattle.std.proofs.lemmas.List.{drop-drop}
use Rattle.faults.specs.declared.Fault.{Fault}
use Rattle.faults.specs.declared.numbers.FaultNumber.TheVariants.{ImageLength, OtherState}
use Rattle.faults.specs.Faults.{fault_of}
use Rattle.calculus.specs.Terms.{Term, suspension, is_value, is_suspension}
use Rattle.calculus.specs.Configurations.{Configuration, ◌∣◌}
use Rattle.encoding.specs.Encoding.{encode}
use Rattle.encoding.proofs.Places.{stands_from}
use Rattle.image.specs.Images.{bindings_words, used, Image}
use Rattle.image.specs.Places.{At, Passed}
use Rattle.image.specs.Reading.{reading}
use Rattle.image.proofs.Whole.{laid}
use Rattle.image.proofs.Exact.{reads_image}
use Rattle.calls.specs.States.{is_of}
use Rattle.calls.specs.declared.states.Status.{Status}
use Rattle.calls.specs.Entry.{allowed_length, of_status, entered}
use Rattle.calls.proofs.Points.{suspends}
use Rattle.calls.proofs.Showing.{shows_itself, term_stands}
use Rattle.engine.specs.Entry.{passed}
use Rattle.engine.specs.Showing.{ShownAt}

-- a fault says which answer it is of
pub fault_known : {A : Type 0} (r : Result A Fault) (f : Fault) → Err f ≡ passed r → r ≡ Err f
fault_known (Ok a) f e = cc
fault_known (Err g) f e = let i : f ≡ g = cc in ap Err (sym i)

-- what a call goes on with
pub record Known (s : Status) (image : List ℕ) (r : Result Configuration Fault) : Type 0 where
  pub configuration : Configuration
  pub is : r ≡ Ok configuration
  pub is_image : Image image configuration
  pub in_state : is_of s configuration.term ≡ true

known_status : (s : Status) (image : List ℕ) (o : Option Configuration) → reading image ≡ o → Ok tt ≡ passed (of_status s o) → Known s image (of_status s o)
known_status s image None e h = cc
known_status s image (Some c) e h = by (is_of s c.term) refl h
  where
    by : (b : Bool) → is_of s c.term ≡ b → Ok tt ≡ passed (cond b (Ok c) (Err (fault_of OtherState 0))) →
        Known s image (cond b (Ok c) (Err (fault_of OtherState 0)))
    by true q k = record { configuration = c; is = refl; is_image = reads_image image c e; in_state = q }
    by false q k = cc

pub image_known : (s : Status) (image : List ℕ) → Ok tt ≡ passed (of_status s (reading image)) → Known s image (of_status s (reading image))
image_known s image h = known_status s image (reading image) refl h

pub entry_known : (s : Status) (image : List ℕ) → Ok tt ≡ passed (entered s image) → Known s image (entered s image)
entry_known s image h = by (allowed_length (length image)) h
  where
    by : (b : Bool) → Ok tt ≡ passed (cond b (of_status s (reading image)) (Err (fault_of ImageLength 0))) →
        Known s image (cond b (of_status s (reading image)) (Err (fault_of ImageLength 0)))
    by true k = image_known s image k
    by false k = cc

-- the value of an end stands at word 1
pub end_shown : (image : List ℕ) (c : Configuration) → Image image c → is_value c.term ≡ true → ShownAt image c 1
end_shown image c m e = record { value = c.term; part = shows_itself c.term e; stands = term_stands image c m }

-- the pending value of an offer stands behind the suspension's word and its term
module _ (image : List ℕ) (c : Configuration) (m : Image image c) (q : ℕ)
    (past : (t : Term) (rest : List ℕ) → At t rest 2 image → Passed t rest 2 q image) where
  offered : (t v : Term) → Image image (suspension t v ∣ c.bindings) → ShownAt image (suspension t v ∣ c.bindings) q
  offered t v i =
      let rest = bindings_words c.bindings ++ replicate (length image - used (suspension t v ∣ c.bindings)) 0 in
      let f = i.encodable.term_fits in
      let d : drop 2 image ≡ encode t ++ (encode v ++ rest) =
      sym (drop-drop 1 1 image) ∙ ap (drop 1) (laid image (suspension t v ∣ c.bindings) i).rest ∙ append_assoc (encode t) (encode v) rest in
      let p = past t (encode v ++ rest) (record { fits = f.1; words = d }) in
      record {
        value = v;
        part = ap (λ n. record { place = n; words = encode v }) (omega (arith, p.ends));
        stands = stands_from v image q rest f.2 p.behind;
      }

  pub offer_shown : is_suspension c.term ≡ true → ShownAt image c q
  offer_shown e =
      let k = suspends c.term e in
      subst (λ (t : Term). ShownAt image (t ∣ c.bindings) q) (sym k.2)
      (offered k.0 k.1 (subst (λ (t : Term). Image image (t ∣ c.bindings)) k.2 m))
