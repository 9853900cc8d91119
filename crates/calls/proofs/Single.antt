-- A single step at a point, and which refusals a call can meet there.
use Rattle.std.proofs.Common.{◌≡◌, ℕ, Bool, true, false, cond, ltb, List, length, Some, None, Ok, Err, Option, Result, sym, refl, ap, ◌∙◌, subst, inl, inr}
use Rattle.std.proofs.lemmas.Bool.{cases_eq, lt-ltb, le-ltb, or_cases}
use Rattle.faults.specs.declared.Fault.{Fault}
use Rattle.faults.specs.declared.numbers.FaultNumber.TheVariants.{SpareLength, Labels, ImageFull}
use Rattle.faults.specs.Faults.{fault_of}
use Rattle.quantities.specs.Meaning.{Meaning}
use Rattle.calculus.specs.Terms.{Term, is_value, is_suspension}
use Rattle.calculus.specs.Configurations.{Configuration}
use Rattle.calculus.specs.Places.{place}
use Rattle.calculus.specs.Steps.{Step}
use Rattle.calculus.proofs.Agreement.{agrees}
use Rattle.calculus.proofs.Rest.{still_value, still_suspension}
use Rattle.image.specs.Images.{most_bindings, used, image_of}
use Rattle.image.specs.Stepping.{if_it_fits, step_result, step_in, rests, stop_at, one_more, steps_in}
use Rattle.calls.specs.States.{Status, going, offering, status_of}
use Rattle.calls.specs.Results.{RunOutcome, unless_refused, stopped, run_from, run_outcome, suspended_of, take_from, show_from}
use Rattle.calculus.specs.Views.{view}
use Rattle.calls.specs.Histories.{Point}
use Rattle.calls.specs.Soundness.{SingleStep, RefusedOnlyBy}
use Rattle.calls.proofs.Stopping.{OfRoom, HasSuccessors, refused_for_room}
use Rattle.calls.proofs.Entered.{going_status, enters, enters_with, enters_not}
use Rattle.calls.proofs.Points.{Stands, suspends}

-- what makes a step is neither a value nor a suspension
pub steps_going : {Q : Meaning} (c d : Configuration) → Step Q c.term c.bindings d.term d.bindings → rests c.term ≡ false
steps_going {Q} c d s = by (rests c.term) refl
  where
    by : (b : Bool) → rests c.term ≡ b → b ≡ false
    by false e = refl
    by true e =
        elim (or_cases (is_value c.term) (is_suspension c.term) e) [
          | inl v ↦ absurd (still_value v d.term d.bindings s)
          | inr u ↦
              let k = suspends c.term u in
              absurd (still_suspension {t = k.0} {v = k.1} d.term d.bindings (subst (λ t. Step Q t c.bindings d.term d.bindings) k.2 s))
        ]

-- one step from a configuration that is neither a value nor a suspension
one_step : (Q : Meaning) (len : ℕ) (c : Configuration) (r : Result Configuration Fault) → rests c.term ≡ false → step_in Q len c ≡ r →
    steps_in Q len 1 c ≡ elim r [ Err f ↦ stop_at c (Some f) | Ok d ↦ one_more (stop_at d None) ]
one_step Q len c r g e =
    ap (λ b. cond b (stop_at c None) (elim (step_in Q len c) [ Err f ↦ stop_at c (Some f) | Ok d ↦ one_more (stop_at d None) ])) g
    ∙ ap (λ x. elim x [ Err f ↦ stop_at c (Some f) | Ok d ↦ one_more (stop_at d None) ]) e

module _ (Q : Meaning) (p : Point) (c : Configuration) (s : Stands p c) where
  -- a run of one step
  run_one : (d : Configuration) → Step Q c.term c.bindings d.term d.bindings → (r : Result Configuration Fault) →
      if_it_fits (length p.image) (place c.term) d ≡ r →
      run_outcome Q 1 p.image (length p.image)
      ≡ stopped (length p.image) (elim r [ Err f ↦ stop_at c (Some f) | Ok e ↦ one_more (stop_at e None) ])
  run_one d st r e =
      let g = steps_going c d st in
      let n = (agrees Q c.term c.bindings d.term d.bindings).0 st in
      let image = p.image in
      ap (run_from Q 1 image) (enters_with image c s.is_image going (sym (going_status c.term g)) (length image) refl)
      ∙ ap (stopped (length image)) (one_step Q (length image) c r g (ap (step_result (length image) (place c.term)) n ∙ e))

  unchanged : image_of (length p.image) c ≡ p.image
  unchanged = sym s.is_image.is

  refusal : (f : Fault) → stopped (length p.image) (stop_at c (Some f)) ≡ record { made = 0; answer = Err f; image = p.image }
  refusal f = ap (λ (ws : List ℕ). let o : RunOutcome = record { made = 0; answer = Err f; image = ws } in o) unchanged

  pub single : (d : Configuration) → Step Q c.term c.bindings d.term d.bindings → SingleStep Q p.image (place c.term) d
  single d st =
      let len = length p.image in
      let at = place c.term in
      record {
        labels_used_up = λ h.
            run_one d st (Err (fault_of Labels at))
            (ap (λ b. cond b (Err (fault_of Labels at)) (cond (ltb len (used d)) (Err (fault_of ImageFull at)) (Ok d))) (lt-ltb most_bindings (length d.bindings) h))
            ∙ refusal (fault_of Labels at);
        image_full = λ h k.
            run_one d st (Err (fault_of ImageFull at))
            (ap (λ b. cond b (Err (fault_of Labels at)) (cond (ltb len (used d)) (Err (fault_of ImageFull at)) (Ok d))) (le-ltb most_bindings (length d.bindings) h)
            ∙ ap (λ b. cond b (Err (fault_of ImageFull at)) (Ok d)) (lt-ltb len (used d) k))
            ∙ refusal (fault_of ImageFull at);
        made = λ h k.
            run_one d st (Ok d)
            (ap (λ b. cond b (Err (fault_of Labels at)) (cond (ltb len (used d)) (Err (fault_of ImageFull at)) (Ok d))) (le-ltb most_bindings (length d.bindings) h)
            ∙ ap (λ b. cond b (Err (fault_of ImageFull at)) (Ok d)) (le-ltb len (used d) k));
      }

  -- the fault of a run that was entered
  run_fault : HasSuccessors Q c → (n : ℕ) (f : Fault) → (o : Option Fault) → (steps_in Q (length p.image) n c).fault ≡ o →
      unless_refused o (steps_in Q (length p.image) n c).last.term ≡ Err f → OfRoom f
  run_fault l n f None e h = cc
  run_fault l n f (Some g) e h = let i : g ≡ f = cc in refused_for_room Q (length p.image) n c l f (e ∙ ap Some i)

  pub refusals : HasSuccessors Q c → RefusedOnlyBy Q p.image p.status
  refusals l = record {
    runs = λ g n k f h.
        elim (cases_eq k (length p.image)) [
          | inl e ↦
              inr (run_fault l n f (steps_in Q (length p.image) n c).fault refl
              (sym (ap (λ r. (run_from Q n p.image r).answer) (enters_with p.image c s.is_image going (sym g ∙ s.status_is) k e)) ∙ h))
          | inr e ↦
              let i : Err (fault_of SpareLength 0) ≡ Err f = sym (ap (λ r. (run_from Q n p.image r).answer) (enters_not p.image c s.is_image going k e)) ∙ h in
              inl (spare_fault f i)
        ];
    takes = λ g k f h.
        elim (cases_eq k (length p.image)) [
          | inl e ↦
              let i : Ok (status_of (suspended c)) ≡ Err f = sym (ap (λ r. (take_from p.image r).answer) (enters_with p.image c s.is_image offering (sym g ∙ s.status_is) k e)) ∙ h in
              ok_err i
          | inr e ↦
              let i : Err (fault_of SpareLength 0) ≡ Err f = sym (ap (λ r. (take_from p.image r).answer) (enters_not p.image c s.is_image offering k e)) ∙ h in
              spare_fault f i
        ];
    shows = λ g f h.
        let i = sym (ap show_from (enters p.image c s.is_image p.status s.status_is)) ∙ h in ok_err i;
  }
    where
      suspended : Configuration → Term
      suspended c = suspended_of (view c.term) c.term

      spare_fault : (f : Fault) → ◌≡◌ {A = Result Status Fault} (Err (fault_of SpareLength 0)) (Err f) → f.number ≡ SpareLength
      spare_fault f e = cc

      ok_err : {A B : Type 0} {a : A} {f : Fault} → ◌≡◌ {A = Result A Fault} (Ok a) (Err f) → B
      ok_err e = cc
