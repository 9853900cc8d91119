-- A run makes the steps of the relation, a take takes the offer.
use Rattle.std.proofs.Common.{◌≡◌, ℕ, zero, suc, ◌<◌, ◌≤◌, Bool, true, false, cond, ltb, ◌⊎◌, List, [], ◌∷◌, length, Some, None, Ok, Err, Option, Result, sym, refl, ap, ◌∙◌, subst, inl, inr, arith, length-append}
use Rattle.std.proofs.lemmas.Bool.{ltb-true, ltb-false}
use Rattle.faults.specs.declared.Fault.{Fault}
use Rattle.faults.specs.declared.numbers.FaultNumber.TheVariants.{Labels, ImageFull}
use Rattle.faults.specs.Faults.{fault_of}
use Rattle.quantities.specs.Meaning.{Meaning, Lawful as Law}
use Rattle.calculus.specs.Terms.{Term, suspension}
use Rattle.calculus.specs.Configurations.{Bindings, rows, Configuration, ◌∣◌}
use Rattle.calculus.specs.Places.{place}
use Rattle.calculus.specs.Steps.{Origin, Growth, same_rows, one_more as one_more_row}
use Rattle.calculus.specs.Next.{next}
use Rattle.calculus.proofs.Agreement.{agrees}
use Rattle.calculus.proofs.Growth.{grows}
use Rattle.image.specs.Images.{most_bindings, used, image_of, Image}
use Rattle.image.specs.Stepping.{step_result, step_in, rests, Stop, stop_at, one_more, steps_in}
use Rattle.image.proofs.Keeping.{length_image, made, steps_keep_images, steps_keep_length, take_shorter, take_keeps_images}
use Rattle.calls.specs.States.{Status, going, offering, status_of}
use Rattle.calls.specs.Results.{unless_refused, stopped, run_from, take_from}
use Rattle.calls.specs.Runs.{Successor, Steps, no_step, step_more, StepRefused, RunLaw, RunsBySteps, TakeLaw, TakesTheOffer}
use Rattle.calls.proofs.Entered.{own_status}
use Rattle.calls.proofs.Points.{suspends}
use Rattle.calls.proofs.Entering.{enters_or_not}

rows_length : (μ : Bindings) → length (rows μ) ≡ length μ
rows_length [] = refl
rows_length (β ∷ μ) = ap suc (rows_length μ)

module _ (Q : Meaning) where
  successor : (len : ℕ) (c d : Configuration) → step_in Q len c ≡ Ok d → Successor Q c d
  successor len c d e = (agrees Q c.term c.bindings d.term d.bindings).1 (made Q len c d e).successor

  step_before : {c d : Configuration} {k : ℕ} {e : Configuration} → Successor Q c d → Steps Q d k e → Steps Q c (suc k) e
  step_before s no_step = step_more no_step s
  step_before s (step_more h t) = step_more (step_before s h) t

  -- a step that leads past the most bindings is that of a start or a snapshot with the most
  past_the_most : (c d : Configuration) → length c.bindings ≤ most_bindings → most_bindings < length d.bindings →
      Growth c.term c.bindings d.bindings → (length c.bindings ≡ most_bindings) × ((r : ℕ) × Origin c.term c.bindings r)
  past_the_most c d few h (same_rows e) =
      absurd (omega (arith, ap length e, rows_length c.bindings, rows_length d.bindings))
  past_the_most c d few h (one_more_row r o e) =
      (omega (arith, ap length e, rows_length c.bindings, rows_length d.bindings, length-append (rows c.bindings) (r ∷ [])), (r, o))

  -- why a step is refused
  refused_step : (len : ℕ) (c : Configuration) → length c.bindings ≤ most_bindings → (f : Fault) → step_in Q len c ≡ Err f →
      StepRefused Q len c f
  refused_step len c few f h = by (next Q c.term c.bindings) refl h
    where
      p : ℕ
      p = place c.term

      by_tests : (d : Configuration) → next Q c.term c.bindings ≡ Some d → (a b : Bool) →
          ltb most_bindings (length d.bindings) ≡ a → ltb len (used d) ≡ b →
          cond a (Err (fault_of Labels p)) (cond b (Err (fault_of ImageFull p)) (Ok d)) ≡ Err f → StepRefused Q len c f
      by_tests d e true b ha hb k =
          record {
            at_place = cc;
            why =
                let s = (agrees Q c.term c.bindings d.term d.bindings).1 e in
                let over = ltb-true most_bindings (length d.bindings) ha in
                let k = past_the_most c d few over (grows s) in
                inr (inl (cc, (d, s, over, k.0, k.1)));
          }
      by_tests d e false true ha hb k =
          record {
            at_place = cc;
            why = inr (inr (cc, (d, (agrees Q c.term c.bindings d.term d.bindings).1 e, ltb-false most_bindings (length d.bindings) ha, ltb-true len (used d) hb)));
          }
      by_tests d e false false ha hb k = cc

      by : (o : Option Configuration) → next Q c.term c.bindings ≡ o → step_result len p o ≡ Err f → StepRefused Q len c f
      by None e k =
          record {
            at_place = cc;
            why = inl (cc, λ u ν s. let z = (agrees Q c.term c.bindings u ν).0 s in let y : ◌≡◌ {A = ℕ} 0 1 = cc in omega arith);
          }
      by (Some d) e k = by_tests d e (ltb most_bindings (length d.bindings)) (ltb len (used d)) refl refl k

  -- where a run of steps stops
  record Stops (len n : ℕ) (c : Configuration) (s : Stop) : Type 0 where
    steps : Steps Q c s.made s.last
    at_most : s.made ≤ n
    accepted : s.fault ≡ None → (s.made ≡ n) ⊎ (rests s.last.term ≡ true)
    refused : (f : Fault) → s.fault ≡ Some f → (s.made < n) × (rests s.last.term ≡ false) × StepRefused Q len s.last f

  no_fault : {A : Type 0} (f : Fault) → ◌≡◌ {A = Option Fault} None (Some f) → A
  no_fault f e = cc

  one_fault : (f g : Fault) → ◌≡◌ {A = Option Fault} (Some f) (Some g) → f ≡ g
  one_fault f g e = cc

  stops : (len n : ℕ) (c : Configuration) → length c.bindings ≤ most_bindings → Stops len n c (steps_in Q len n c)
  stops len zero c few =
      record { steps = no_step; at_most = omega arith; accepted = λ e. inl refl; refused = λ f e. no_fault f e }
  stops len (suc n) c few = go (λ d k. stops len n d k) (rests c.term) (step_in Q len c) refl refl
    where
      go : ((d : Configuration) → length d.bindings ≤ most_bindings → Stops len n d (steps_in Q len n d)) → (b : Bool) (r : Result Configuration Fault) →
          rests c.term ≡ b → step_in Q len c ≡ r →
          Stops len (suc n) c (cond b (stop_at c None) (elim r [ Err f ↦ stop_at c (Some f) | Ok d ↦ one_more (steps_in Q len n d) ]))
      go again true r e v =
          record { steps = no_step; at_most = omega arith; accepted = λ x. inr e; refused = λ f x. no_fault f x }
      go again false (Err f) e v = record {
        steps = no_step;
        at_most = omega arith;
        accepted = λ x. no_fault f (sym x);
        refused = λ g x. (omega arith, e, refused_step len c few g (v ∙ ap Err (one_fault f g x)));
      }
      go again false (Ok d) e v =
          let k = again d (made Q len c d v).few in
          record {
            steps = step_before (successor len c d v) k.steps;
            at_most = omega (arith, k.at_most);
            accepted = λ x. elim (k.accepted x) [ inl y ↦ inl (ap suc y) | inr y ↦ inr y ];
            refused = λ f x. let y = k.refused f x in (omega (arith, y.0), y.1, y.2);
          }

  ok_only : (f : Option Fault) (t : Term) (s : Status) → unless_refused f t ≡ Ok s → (f ≡ None) × (s ≡ status_of t)
  ok_only None t s e = (refl, cc)
  ok_only (Some f) t s e = cc

  err_only : (f : Option Fault) (t : Term) (g : Fault) → unless_refused f t ≡ Err g → f ≡ Some g
  err_only None t g e = cc
  err_only (Some f) t g e = cc

  -- a run that is entered
  ran : Law Q → (n : ℕ) (image : List ℕ) (c : Configuration) → Image image c →
      RunLaw Q n c (length image) (stopped (length image) (steps_in Q (length image) n c))
  ran law n image c m =
      let k = stops (length image) n c m.fits.few in
      let last = (steps_in Q (length image) n c).last in
      let fault = (steps_in Q (length image) n c).fault in
      record {
        last = last;
        steps = k.steps;
        at_most = k.at_most;
        as_long = steps_keep_length law n m;
        is_image = steps_keep_images law n m;
        accepted = λ s h. let x = ok_only fault last.term s h in (x.1, k.accepted x.0);
        refused = λ f h. k.refused f (err_only fault last.term f h);
      }

  pub runs_by_steps : Law Q → (n : ℕ) (image : List ℕ) (spare : ℕ) → RunsBySteps Q n image spare
  runs_by_steps law n image spare =
      elim (enters_or_not going image spare) [
        | inl x ↦ inl (x.0, x.1, ap (run_from Q n image) x.2)
        | inr x ↦
            inr (
              x.0,
              x.1.is_image,
              x.1.in_state,
              x.2,
              subst (λ r. RunLaw Q n x.0 (length image) (run_from Q n image r)) (sym x.3) (ran law n image x.0 x.1.is_image),
            )
      ]

-- a take that is entered
taken : (image : List ℕ) (c : Configuration) → Image image c → (t v : Term) → c.term ≡ suspension t v →
    TakeLaw c t v image (take_from image (Ok c))
taken image c m t v e =
    subst (λ u. Image image (u ∣ c.bindings) → TakeLaw (u ∣ c.bindings) t v image (take_from image (Ok (u ∣ c.bindings)))) (sym e) of_suspension m
  where
    of_suspension : Image image (suspension t v ∣ c.bindings) →
        TakeLaw (suspension t v ∣ c.bindings) t v image (take_from image (Ok (suspension t v ∣ c.bindings)))
    of_suspension i =
        let k = take_keeps_images i in
        record { offer = refl; answered = refl; as_long = as_long_as i; is_image = k }
      where
        as_long_as : Image image (suspension t v ∣ c.bindings) → length (image_of (length image) (t ∣ c.bindings)) ≡ length image
        as_long_as i = length_image (length image) (t ∣ c.bindings) (omega (arith, take_shorter t v c.bindings, i.fits.room))

pub takes_the_offer : (image : List ℕ) (spare : ℕ) → TakesTheOffer image spare
takes_the_offer image spare =
    elim (enters_or_not offering image spare) [
      | inl x ↦ inl (x.0, x.1, ap (take_from image) x.2)
      | inr x ↦
          let c = x.0 in
          let k = suspends c.term (own_status c.term offering (sym x.1.in_state)) in
          inr (
            c,
            k.0,
            k.1,
            x.1.is_image,
            x.2,
            subst (λ r. TakeLaw c k.0 k.1 image (take_from image r)) (sym x.3) (taken image c x.1.is_image k.0 k.1 k.2),
          )
    ]
