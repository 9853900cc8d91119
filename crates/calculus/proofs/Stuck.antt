-- Stuck configurations: carried outwards along the path, and with no successor.
use Rattle.std.proofs.Common.{◌≡◌, ℕ, false, Some, refl, ◌∙◌, arith}
use Rattle.quantities.specs.Meaning.{Meaning}
use Rattle.calculus.specs.Lists.{at}
use Rattle.calculus.specs.Terms.{Term, unit, variable, abstraction, coroutine, application, yield, start, resume, snapshot, fix, atom, operation, instance, resumption, suspension, is_value, is_suspension}
use Rattle.calculus.specs.Configurations.{empty, ready, Bindings}
use Rattle.calculus.specs.Frames.{Frame, plug, Proper}
use Rattle.calculus.specs.Places.{path}
use Rattle.calculus.specs.Steps.{Still}
use Rattle.calculus.specs.Resumptions.{EndsOnEmpty}
use Rattle.calculus.specs.Outcomes.{Stuck}
use Rattle.calculus.proofs.PathFrames.{term_plug, path_plug}
use Rattle.calculus.proofs.StepAtPath.{at_path}
use Rattle.calculus.proofs.LineCases.{at_resumption}

-- what is stuck is no value and no suspension
pub stuck_quiet : (t : Term) {μ : Bindings} → Stuck t μ → (is_value t ≡ false) × (is_suspension t ≡ false)
stuck_quiet unit k = let e = k.last_is in let z : ◌≡◌ {A = ℕ} 0 1 = cc in absurd (omega arith)
stuck_quiet (variable n) k = (refl, refl)
stuck_quiet (abstraction x r b) k = let e = k.last_is in let z : ◌≡◌ {A = ℕ} 0 1 = cc in absurd (omega arith)
stuck_quiet (coroutine x r b) k = let e = k.last_is in let z : ◌≡◌ {A = ℕ} 0 1 = cc in absurd (omega arith)
stuck_quiet (application f a) k = (refl, refl)
stuck_quiet (yield t) k = (refl, refl)
stuck_quiet (start i f a) k = (refl, refl)
stuck_quiet (resume a b c d) k = (refl, refl)
stuck_quiet (snapshot t) k = (refl, refl)
stuck_quiet (fix t) k = (refl, refl)
stuck_quiet (atom n p) k = let e = k.last_is in let z : ◌≡◌ {A = ℕ} 0 1 = cc in absurd (omega arith)
stuck_quiet (operation o a b) k = (refl, refl)
stuck_quiet (instance l r) k = let e = k.last_is in let z : ◌≡◌ {A = ℕ} 0 1 = cc in absurd (omega arith)
stuck_quiet (resumption l a b c d) k = (refl, refl)
stuck_quiet (suspension t v) k = let e = k.last_is in let z : ◌≡◌ {A = ℕ} 0 1 = cc in absurd (omega arith)

pub stuck_plug : (F : Frame) (t : Term) (μ : Bindings) → Proper F → Stuck t μ → Stuck (plug F t) μ
stuck_plug F t μ p k =
    let q = stuck_quiet t k in let e = path_plug F t p q.0 q.1 in
    record {
      label = k.label;
      body = k.body;
      of_result = k.of_result;
      of_yield = k.of_yield;
      of_neither = k.of_neither;
      last_is = rw e (term_plug F t (path t) ∙ k.last_is);
      body_is = k.body_is;
      row = k.row;
      ready_body = k.ready_body;
      binding_ready = k.binding_ready;
    }

pub stuck_executing : (l : ℕ) (a b c d : Term) (μ : Bindings) → Stuck a μ → Stuck (resumption l a b c d) μ
stuck_executing l a b c d μ k =
    let q = stuck_quiet a k in
    record {
      label = k.label;
      body = k.body;
      of_result = k.of_result;
      of_yield = k.of_yield;
      of_neither = k.of_neither;
      last_is = rw (q.0, q.1) k.last_is;
      body_is = k.body_is;
      row = k.row;
      ready_body = k.ready_body;
      binding_ready = k.binding_ready;
    }

empty_or_ready : (μ : Bindings) (l i j : ℕ) (t : Term) → at μ l ≡ Some (empty i) → at μ l ≡ Some (ready j t) → ⊥
empty_or_ready μ l i j t e h = let z : ◌≡◌ {A = ℕ} 0 1 = cc in omega arith

pub stuck_still : {Q : Meaning} {t : Term} {μ : Bindings} → Stuck t μ → Still Q t μ
stuck_still {t = t} {μ = μ} k u ν s =
    let a = at_path s in
    let e : a.last ≡ resumption k.label k.body k.of_result k.of_yield k.of_neither = cc (a.last_is, k.last_is) in
    let r = at_resumption a.its_line e in
    empty_or_ready μ k.label r.row k.row k.ready_body r.binding_empty k.binding_ready

pub not_stuck : {t : Term} {μ : Bindings} → EndsOnEmpty t μ → Stuck t μ → ⊥
not_stuck {t} {μ} h k =
    let r = h k.label (record {
      body = k.body;
      of_result = k.of_result;
      of_yield = k.of_yield;
      of_neither = k.of_neither;
      stands = k.last_is;
    }) in
    empty_or_ready μ k.label r.0 k.row k.ready_body r.1 k.binding_ready
