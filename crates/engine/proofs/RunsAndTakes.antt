-- What a run and a take answer and leave, from what their code has written.
use Rattle.std.proofs.Common.{◌≡◌, ℕ, Bool, true, false, cond, eqb, List, length, get_or, Some, None, Ok, Err, Option, Result, sym, refl, ap, ◌∙◌, subst}
use Rattle.faults.specs.declared.Fault.{Fault}
use Rattle.faults.specs.declared.numbers.FaultNumber.TheVariants.{ImageLength, SpareLength}
use Rattle.faults.specs.Faults.{fault_of}
use Rattle.quantities.specs.Meaning.{Meaning, Lawful as Law}
use Rattle.calculus.specs.Terms.{Term, suspension}
use Rattle.calculus.specs.Configurations.{Configuration, ◌∣◌}
use Rattle.image.specs.Images.{image_of, Image}
use Rattle.image.specs.Reading.{reading}
use Rattle.image.specs.Stepping.{Stop, steps_in}
use Rattle.image.proofs.Keeping.{steps_keep_images, take_keeps_images}
use Rattle.steps.specs.declared.run.Halted.{Halted}
use Rattle.steps.specs.Stepped.{run_answer, RunWritten}
use Rattle.calls.specs.States.{status_of}
use Rattle.calls.specs.declared.states.Status.{Status}
use Rattle.calls.specs.declared.states.Status.TheVariants.{Going as going, Offering as offering}
use Rattle.calls.specs.Entry.{allowed_length, of_status, entered_with}
use Rattle.calls.specs.Results.{RunOutcome, unless_refused, stopped, run_from, run_outcome, CallOutcome, take_from, take_outcome}
use Rattle.calls.proofs.Points.{suspends}
use Rattle.engine.specs.declared.states.Going.{Going}
use Rattle.engine.specs.declared.states.Offering.{Offering}
use Rattle.engine.specs.declared.states.State.{State}
use Rattle.engine.specs.declared.answers.Ran.{Ran}
use Rattle.engine.specs.declared.answers.RunRefused.{RunRefused}
use Rattle.engine.specs.declared.answers.TakeRefused.{TakeRefused}
use Rattle.engine.specs.States.{state_of, status_at}
use Rattle.engine.specs.Answers.{ran, taken}
use Rattle.engine.specs.Entry.{passed}
use Rattle.engine.proofs.Entries.{first_status}
use Rattle.engine.proofs.ShownParts.{Known, image_known, fault_known}

-- what a call with a spare goes on with
pub spare_entry_known : (s : Status) (image : List ℕ) (k : ℕ) → Ok tt ≡ passed (entered_with s image k) → Known s image (entered_with s image k)
spare_entry_known s image k h = by (allowed_length (length image)) (eqb k (length image)) h
  where
    by : (a b : Bool) →
        Ok tt ≡ passed (cond a (cond b (of_status s (reading image)) (Err (fault_of SpareLength 0))) (Err (fault_of ImageLength 0))) →
        Known s image (cond a (cond b (of_status s (reading image)) (Err (fault_of SpareLength 0))) (Err (fault_of ImageLength 0)))
    by true true e = image_known s image e
    by true false e = cc
    by false b e = cc

-- the image at the end is that of the last configuration, so word 1 says its state
last_status : (image' : List ℕ) (len : ℕ) (d : Configuration) → image' ≡ image_of len d → Image (image_of len d) d →
    status_at (get_or image' 1 0) ≡ status_of d.term
last_status image' len d e m = ap (λ ws. status_at (get_or ws 1 0)) e ∙ first_status (image_of len d) d m

-- what the answer of a run of steps says of where it stopped
halted : (n : ℕ) (o : Option Fault) (h : Halted) → Err h ≡ run_answer n o → (o ≡ Some h.fault) × (h.made ≡ n)
halted n None h e = (cc, cc)
halted n (Some f) h e =
    let k : h ≡ record { fault = f; made = n } = cc in
    (ap (λ (x : Halted). Some x.fault) (sym k), ap (λ (x : Halted). x.made) k)

counted : (n : ℕ) (o : Option Fault) (i : ℕ) → Ok i ≡ run_answer n o → (o ≡ None) × (i ≡ n)
counted n None i e = (refl, cc)
counted n (Some f) i e = (cc, cc)

module _ (m : Meaning) (n : ℕ) (image : List ℕ) (k : ℕ) (g : Going) where
  -- a run that is refused before its first step
  pub run_not_entered : (f : Fault) → Err f ≡ passed (entered_with going image k) →
      run_outcome m n image k ≡ record { made = 0; answer = Err f; image = image }
  run_not_entered f e = ap (run_from m n image) (fault_known (entered_with going image k) f e)

  module _ (e : Ok tt ≡ passed (entered_with going image k)) where
    pub run_known : Known going image (entered_with going image k)
    run_known = spare_entry_known going image k e

    stop : Stop
    stop = steps_in m (length image) n run_known.configuration

    pub run_entered : run_outcome m n image k ≡ stopped (length image) (steps_in m (length image) n run_known.configuration)
    run_entered = ap (run_from m n image) run_known.is

    module _ (image' : List ℕ) (r : Result ℕ Halted)
        (w : RunWritten r image image' (steps_in m (length image) n run_known.configuration)) where
      pub run_image : image' ≡ (run_outcome m n image k).image
      run_image = w.is ∙ sym (ap (λ (o : RunOutcome). o.image) run_entered)

      pub run_refused : (h : Halted) → r ≡ Err h →
          ◌≡◌ {A = Result Ran RunRefused} (Err (record { fault = h.fault; made = h.made; state = g }))
          (ran g (run_outcome m n image k).made (run_outcome m n image k).answer)
      run_refused h e =
          let s = steps_in m (length image) n run_known.configuration in
          let x = halted s.made s.fault h (sym e ∙ w.answer) in
          ap (λ i. Err (record { fault = h.fault; made = i; state = g })) x.1
          ∙ ap (λ x. ran g s.made (unless_refused x s.last.term)) (sym x.0)
          ∙ sym (ap (λ (o : RunOutcome). ran g o.made o.answer) run_entered)

      pub run_accepted : Law m → (i : ℕ) → r ≡ Ok i → (st : State) → st ≡ state_of (status_at (get_or image' 1 0)) →
          ◌≡◌ {A = Result Ran RunRefused} (Ok (record { made = i; state = st }))
          (ran g (run_outcome m n image k).made (run_outcome m n image k).answer)
      run_accepted law i e st q =
          let s = steps_in m (length image) n run_known.configuration in
          let x = counted s.made s.fault i (sym e ∙ w.answer) in
          let t : st ≡ state_of (status_of s.last.term) =
          q ∙ ap state_of (last_status image' (length image) s.last w.is (steps_keep_images law n run_known.is_image)) in
          ap (λ j. Ok (record { made = j; state = st })) x.1
          ∙ ap (λ y. Ok (record { made = s.made; state = y })) t
          ∙ ap (λ y. ran g s.made (unless_refused y s.last.term)) (sym x.0)
          ∙ sym (ap (λ (o : RunOutcome). ran g o.made o.answer) run_entered)

module _ (image : List ℕ) (k : ℕ) (g : Offering) where
  pub take_not_entered : (f : Fault) → Err f ≡ passed (entered_with offering image k) → take_outcome image k ≡ record { answer = Err f; image = image }
  take_not_entered f e = ap (take_from image) (fault_known (entered_with offering image k) f e)

  module _ (e : Ok tt ≡ passed (entered_with offering image k)) (image' : List ℕ)
      (w : (c : Configuration) (t v : Term) → Image image c → c.term ≡ suspension t v → image' ≡ image_of (length image) (t ∣ c.bindings)) where
    -- the take of an offer of t
    pub record Takes : Type 0 where
      pub image_is : image' ≡ (take_outcome image k).image
      pub answer_is : (st : State) → st ≡ state_of (status_at (get_or image' 1 0)) →
          ◌≡◌ {A = Result State TakeRefused} (Ok st) (taken g (take_outcome image k).answer)

    pub takes : Takes
    takes =
        let x = spare_entry_known offering image k e in
        let c = x.configuration in
        let s = suspends c.term x.in_state in
        let t = s.0 in
        let v = s.1 in
        let i = w c t v x.is_image s.2 in
        let m : Image image (suspension t v ∣ c.bindings) = subst (λ u. Image image (u ∣ c.bindings)) s.2 x.is_image in
        let o : take_outcome image k ≡ record { answer = Ok (status_of t); image = image_of (length image) (t ∣ c.bindings) } =
        ap (take_from image) x.is ∙ ap (λ u. take_from image (Ok (u ∣ c.bindings))) s.2 in
        record {
          image_is = i ∙ sym (ap (λ (y : CallOutcome). y.image) o);
          answer_is = λ st q.
              ap Ok (q ∙ ap state_of (last_status image' (length image) (t ∣ c.bindings) i (take_keeps_images m)))
              ∙ sym (ap (λ (y : CallOutcome). taken g y.answer) o);
        }
