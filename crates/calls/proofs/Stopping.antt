-- Where a run of steps stops: what comes of its configuration, and why it stops.
use Rattle.std.proofs.Common.{◌≡◌, ℕ, zero, suc, Bool, true, false, cond, ltb, ◌⊎◌, length, Some, None, Ok, Err, Result, sym, refl, ap, ◌∙◌, inl, inr}
use Rattle.faults.specs.declared.Fault.{Fault}
use Rattle.faults.specs.declared.numbers.FaultNumber.TheVariants.{Labels, ImageFull}
use Rattle.quantities.specs.Meaning.{Meaning}
use Rattle.calculus.specs.Terms.{Term}
use Rattle.calculus.specs.Configurations.{Bindings, Configuration}
use Rattle.calculus.specs.Places.{place}
use Rattle.calculus.specs.Next.{next}
use Rattle.calculus.specs.Histories.{Later, at_once, then_step, then_take}
use Rattle.calculus.proofs.Agreement.{agrees}
use Rattle.image.specs.Images.{most_bindings, used}
use Rattle.image.specs.Stepping.{if_it_fits, step_result, step_in, rests, Stop, stop_at, one_more, steps_in}
use Rattle.image.proofs.Keeping.{made}

-- the fault of a step whose configuration has a successor
abbrev pub OfRoom : Fault → Type 0
OfRoom f = (f.number ≡ Labels) ⊎ (f.number ≡ ImageFull)

held_fault : (len p : ℕ) (d : Configuration) (f : Fault) → if_it_fits len p d ≡ Err f → OfRoom f
held_fault len p d f h = go (ltb most_bindings (length d.bindings)) (ltb len (used d)) refl refl
  where
    go : (a b : Bool) → ltb most_bindings (length d.bindings) ≡ a → ltb len (used d) ≡ b → OfRoom f
    go true b ha hb = let y = rw ha at h in inl cc
    go false true ha hb = let y = rw (ha, hb) at h in inr cc
    go false false ha hb = let y = rw (ha, hb) at h in cc

module _ (Q : Meaning) where
  -- what comes later than what comes later
  pub later_still :
      {t u : Term} {μ ν : Bindings} {w : Term} {κ : Bindings} → Later Q t μ u ν → Later Q u ν w κ → Later Q t μ w κ
  later_still h at_once = h
  later_still h (then_step k s) = then_step (later_still h k) s
  later_still h (then_take k) = then_take (later_still h k)

  abbrev pub LaterThan : Configuration → Configuration → Type 0
  LaterThan c d = Later Q c.term c.bindings d.term d.bindings

  -- one step is later
  pub step_later : (len : ℕ) (c d : Configuration) → step_in Q len c ≡ Ok d → LaterThan c d
  step_later len c d e =
      then_step at_once ((agrees Q c.term c.bindings d.term d.bindings).1 (made Q len c d e).successor)

  -- so is where a run stops
  pub stop_later : (len n : ℕ) (c : Configuration) → LaterThan c (steps_in Q len n c).last
  stop_later len zero c = at_once
  stop_later len (suc n) c = go (λ d. stop_later len n d) (rests c.term) (step_in Q len c) refl
    where
      go : ((d : Configuration) → LaterThan d (steps_in Q len n d).last) → (b : Bool) (r : Result Configuration Fault) → step_in Q len c ≡ r →
          let s : Stop = cond b (stop_at c None) (elim r [ Err f ↦ stop_at c (Some f) | Ok d ↦ one_more (steps_in Q len n d) ]) in
          LaterThan c s.last
      go again true r e = at_once
      go again false (Err f) e = at_once
      go again false (Ok d) e = later_still (step_later len c d e) (again d)

  -- where a run is refused, the term is neither a value nor a suspension
  pub refused_going : (len n : ℕ) (c : Configuration) (f : Fault) → (steps_in Q len n c).fault ≡ Some f → rests (steps_in Q len n c).last.term ≡ false
  refused_going len zero c f h = cc
  refused_going len (suc n) c f h = go (λ d. refused_going len n d f) (rests c.term) (step_in Q len c) refl h
    where
      go : ((d : Configuration) → (steps_in Q len n d).fault ≡ Some f → rests (steps_in Q len n d).last.term ≡ false) →
          (b : Bool) (r : Result Configuration Fault) → rests c.term ≡ b →
          let s : Stop = cond b (stop_at c None) (elim r [ Err g ↦ stop_at c (Some g) | Ok d ↦ one_more (steps_in Q len n d) ]) in
          s.fault ≡ Some f → rests s.last.term ≡ false
      go again true r e h = cc
      go again false (Err g) e h = e
      go again false (Ok d) e h = again d h

  -- what has a successor wherever it neither is a value nor a suspension, now and later
  abbrev pub HasSuccessors : Configuration → Type 0
  HasSuccessors c =
      (d : Configuration) → LaterThan c d → rests d.term ≡ false →
      (e : Configuration) × (next Q d.term d.bindings ≡ Some e)

  -- is refused for want of labels or of room alone
  pub refused_for_room : (len n : ℕ) (c : Configuration) → HasSuccessors c → (f : Fault) → (steps_in Q len n c).fault ≡ Some f → OfRoom f
  refused_for_room len zero c l f h = cc
  refused_for_room len (suc n) c l f h = go (λ d k. refused_for_room len n d k f) (rests c.term) (step_in Q len c) refl refl h
    where
      here : (g : Fault) → rests c.term ≡ false → step_in Q len c ≡ Err g → OfRoom g
      here g b e =
          let k = l c at_once b in
          held_fault len (place c.term) k.0 g (ap (step_result len (place c.term)) (sym k.1) ∙ e)

      go : ((d : Configuration) → HasSuccessors d → (steps_in Q len n d).fault ≡ Some f → OfRoom f) →
          (b : Bool) (r : Result Configuration Fault) → rests c.term ≡ b → step_in Q len c ≡ r →
          let s : Stop = cond b (stop_at c None) (elim r [ Err g ↦ stop_at c (Some g) | Ok d ↦ one_more (steps_in Q len n d) ]) in
          s.fault ≡ Some f → OfRoom f
      go again true r e v h = cc
      go again false (Err g) e v h = let i : g ≡ f = cc in here f e (v ∙ ap Err i)
      go again false (Ok d) e v h = again d (λ x k. l x (later_still (step_later len c d v) k)) h
