-- Through every call a point keeps an image of a configuration that comes later.
use Rattle.std.proofs.Common.{◌≡◌, ℕ, true, ◌⊎◌, List, length, Some, None, Ok, Err, Option, Result, sym, refl, subst, inl, inr}
use Rattle.std.proofs.lemmas.Bool.{cases_eq}
use Rattle.faults.specs.declared.Fault.{Fault}
use Rattle.faults.specs.declared.numbers.FaultNumber.TheVariants.{SpareLength}
use Rattle.faults.specs.Faults.{fault_of}
use Rattle.quantities.specs.Meaning.{Meaning, Lawful as Law}
use Rattle.calculus.specs.Terms.{Term, unit, variable, abstraction, coroutine, application, yield, start, resume, snapshot, fix, atom, operation, instance, resumption, suspension, is_suspension}
use Rattle.calculus.specs.Configurations.{Configuration, ◌∣◌}
use Rattle.calculus.specs.Histories.{at_once, then_take}
use Rattle.calculus.proofs.Tests.{never}
use Rattle.image.specs.Images.{image_of, Image}
use Rattle.image.specs.Stepping.{steps_in}
use Rattle.image.proofs.Keeping.{steps_keep_images, take_keeps_images}
use Rattle.calls.specs.States.{Status, going, offering, ended, status_of}
use Rattle.calls.specs.Entry.{entered_with}
use Rattle.calls.specs.Results.{unless_refused, stopped, run_from, take_from}
use Rattle.calls.specs.Histories.{Call, Point, point, state_after, Leads, by_run, by_show_of_offer, by_show_of_end, by_take, Follows, no_calls, call_first}
use Rattle.calls.proofs.Stopping.{LaterThan, later_still, stop_later, refused_going}
use Rattle.calls.proofs.Entered.{own_status, going_status, enters_with, enters_not}

-- the image at a point is that of c, and the state is that of its term
pub record Stands (p : Point) (c : Configuration) : Type 0 where
  pub is_image : Image p.image c
  pub status_is : p.status ≡ status_of c.term

-- what follows a call at a point where c stands
pub record LaterPoint (Q : Meaning) (c : Configuration) (q : Point) : Type 0 where
  pub next_one : Configuration
  pub stands : Stands q next_one
  pub later : LaterThan Q c next_one

-- the term under a suspension
abbrev pub Suspends : Term → Type 0
Suspends t = (u : Term) × (v : Term) × (t ≡ suspension u v)

pub suspends : (t : Term) → is_suspension t ≡ true → Suspends t
suspends unit e = never e
suspends (variable n) e = never e
suspends (abstraction x r b) e = never e
suspends (coroutine x r b) e = never e
suspends (application f a) e = never e
suspends (yield t) e = never e
suspends (start i f a) e = never e
suspends (resume a b c d) e = never e
suspends (snapshot t) e = never e
suspends (fix t) e = never e
suspends (atom k p) e = never e
suspends (operation o a b) e = never e
suspends (instance l r) e = never e
suspends (resumption l a b c d) e = never e
suspends (suspension t v) e = (t, v, refl)

module _ (Q : Meaning) (law : Law Q) where
  -- where nothing changes
  stays : (p : Point) (c : Configuration) → Stands p c → LaterPoint Q c p
  stays p c s = record { next_one = c; stands = s; later = at_once }

  -- a run from c
  module _ (image : List ℕ) (c : Configuration) (s : Stands (point going image) c) (n : ℕ) where
    stopped_status : (f : Option Fault) (t : Term) → (f ≡ None) ⊎ (status_of t ≡ going) → state_after going (unless_refused f t) ≡ status_of t
    stopped_status None t e = refl
    stopped_status (Some f) t (inl e) = cc
    stopped_status (Some f) t (inr e) = sym e

    by_fault : (f : Option Fault) → (steps_in Q (length image) n c).fault ≡ f → (f ≡ None) ⊎ (status_of (steps_in Q (length image) n c).last.term ≡ going)
    by_fault None e = inl refl
    by_fault (Some f) e = inr (going_status (steps_in Q (length image) n c).last.term (refused_going Q (length image) n c f e))

    run_on : LaterPoint Q c (point (state_after going (stopped (length image) (steps_in Q (length image) n c)).answer) (stopped (length image) (steps_in Q (length image) n c)).image)
    run_on = record {
      next_one = (steps_in Q (length image) n c).last;
      stands = record {
        is_image = steps_keep_images law n s.is_image;
        status_is =
            stopped_status (steps_in Q (length image) n c).fault (steps_in Q (length image) n c).last.term
            (by_fault (steps_in Q (length image) n c).fault refl);
      };
      later = stop_later Q (length image) n c;
    }

    run_entered : (r : Result Configuration Fault) → (r ≡ Ok c) ⊎ ((f : Fault) × (r ≡ Err f)) →
        LaterPoint Q c (point (state_after going (run_from Q n image r).answer) (run_from Q n image r).image)
    run_entered r (inl e) =
        subst (λ x. LaterPoint Q c (point (state_after going (run_from Q n image x).answer) (run_from Q n image x).image)) (sym e) run_on
    run_entered r (inr e) =
        subst (λ x. LaterPoint Q c (point (state_after going (run_from Q n image x).answer) (run_from Q n image x).image)) (sym e.1)
        (stays (point going image) c s)

  entered_cases : (image : List ℕ) (c : Configuration) → Image image c → (s : Status) → s ≡ status_of c.term → (k : ℕ) →
      (entered_with s image k ≡ Ok c) ⊎ ((f : Fault) × (entered_with s image k ≡ Err f))
  entered_cases image c m s e k =
      elim (cases_eq k (length image)) [
        | inl h ↦ inl (enters_with image c m s e k h)
        | inr h ↦ inr (fault_of SpareLength 0, enters_not image c m s k h)
      ]

  -- a take from c, whose term is a suspension
  take_on : (image : List ℕ) (c : Configuration) → Stands (point offering image) c → (u v : Term) → c.term ≡ suspension u v →
      LaterPoint Q c (point (state_after offering (take_from image (Ok c)).answer) (take_from image (Ok c)).image)
  take_on image c s u v e = subst (λ t. Stands (point offering image) (t ∣ c.bindings) → LaterPoint Q (t ∣ c.bindings) (point (state_after offering (take_from image (Ok (t ∣ c.bindings))).answer) (take_from image (Ok (t ∣ c.bindings))).image)) (sym e) taken s
    where
      taken : Stands (point offering image) (suspension u v ∣ c.bindings) → LaterPoint Q (suspension u v ∣ c.bindings) (point (status_of u) (image_of (length image) (u ∣ c.bindings)))
      taken s = record {
        next_one = u ∣ c.bindings;
        stands = record { is_image = take_keeps_images s.is_image; status_is = refl };
        later = then_take at_once;
      }

  take_entered : (image : List ℕ) (c : Configuration) → Stands (point offering image) c → (r : Result Configuration Fault) →
      (r ≡ Ok c) ⊎ ((f : Fault) × (r ≡ Err f)) →
      LaterPoint Q c (point (state_after offering (take_from image r).answer) (take_from image r).image)
  take_entered image c s r (inl e) =
      let k = suspends c.term (own_status c.term offering s.status_is) in
      subst (λ x. LaterPoint Q c (point (state_after offering (take_from image x).answer) (take_from image x).image)) (sym e)
      (take_on image c s k.0 k.1 k.2)
  take_entered image c s r (inr e) =
      subst (λ x. LaterPoint Q c (point (state_after offering (take_from image x).answer) (take_from image x).image)) (sym e.1)
      (stays (point offering image) c s)

  -- each call leads on
  pub leads_on : {p q : Point} {call : Call} → Leads Q p call q → (c : Configuration) → Stands p c → LaterPoint Q c q
  leads_on (by_run {image} n spare h) c s =
      run_entered image c s n (entered_with going image (length spare)) (entered_cases image c s.is_image going s.status_is (length spare))
  leads_on (by_show_of_offer {image}) c s = stays (point offering image) c s
  leads_on (by_show_of_end {image}) c s = stays (point ended image) c s
  leads_on (by_take {image} spare) c s =
      take_entered image c s (entered_with offering image (length spare)) (entered_cases image c s.is_image offering s.status_is (length spare))

  -- and so does each list of calls
  pub follows_on : {p : Point} {calls : List Call} {q : Point} → Follows Q p calls q → (c : Configuration) → Stands p c → LaterPoint Q c q
  follows_on (no_calls {p}) c s = stays p c s
  follows_on (call_first l f) c s =
      let a = leads_on l c s in
      let b = follows_on f a.next_one a.stands in
      record { next_one = b.next_one; stands = b.stands; later = later_still Q a.later b.later }
