-- Steps keep the shape, and so does taking an offer.
use Rattle.std.proofs.Common.{◌≡◌, ℕ, ◌⊎◌, List, [], ◌∷◌, Some, sym, refl, ap, ◌∙◌, subst, inl, inr}
use Rattle.quantities.specs.Meaning.{Meaning}
use Rattle.calculus.specs.Lists.{at}
use Rattle.calculus.specs.Terms.{Term, abstraction, application, fix, suspension, is_value}
use Rattle.calculus.specs.Replacement.{replace}
use Rattle.calculus.specs.Configurations.{Binding, empty, ready, Bindings}
use Rattle.calculus.specs.Lines.{e_pause, e_apply, e_apply_coroutine, e_fix, e_yield, e_start, e_resume_ready, e_resume_empty, e_capture, e_terminate, e_snapshot, e_operate}
use Rattle.calculus.specs.Steps.{Step, line, e_context, e_executing}
use Rattle.calculus.specs.Shape.{Plain, p_plain, PlainBodies, Shaped}
use Rattle.calculus.specs.Statements.{ShapeKept}
use Rattle.calculus.proofs.StepIsNext.{quiet}
use Rattle.calculus.proofs.Bindings.{at_appended, at_put}
use Rattle.calculus.proofs.Live.{Live}
use Rattle.calculus.proofs.Plain.{plain_replace, plain_plug}
use Rattle.calculus.proofs.LiveFrames.{plain_live, value_live, passed, live_part, plain_at, live_plug}
use Rattle.calculus.proofs.Active.{on→live, live→on}
use Rattle.calculus.proofs.Turns.{StaysEmpty, Turn, as_before, entered, captured, completed, deeper, turned, unchanged, appended}

-- every ready body of the new bindings is one of the old, or the body of γ
abbrev PlainIn : Binding → Type 0
PlainIn (empty i) = Unit {0}
PlainIn (ready i t) = Plain t

bodies_change : {μ μ' : Bindings} (γ : Binding) → ((n : ℕ) (x : Binding) → at μ' n ≡ Some x → (at μ n ≡ Some x) ⊎ (x ≡ γ)) → PlainIn γ →
    PlainBodies μ → PlainBodies μ'
bodies_change {μ} γ old new st = record { plain = λ l i t e. go l i t (old l (ready i t) e) }
  where
    go : (l i : ℕ) (t : Term) → (at μ l ≡ Some (ready i t)) ⊎ (ready i t ≡ γ) → Plain t
    go l i t (inl e) = st.plain l i t e
    go l i t (inr e) = let P : Binding → Type 0 = PlainIn in subst P (sym e) new

pub record Lives (t' : Term) (μ μ' : Bindings) (ls : List ℕ) : Type 0 where
  pub labels : List ℕ
  pub live : Live t' labels
  pub turn : Turn μ μ' ls labels
  pub bodies : PlainBodies μ'

-- a step to a plain term, from no label
settles : {t' : Term} {μ μ' : Bindings} {ls : List ℕ} → ls ≡ [] → StaysEmpty μ μ' → PlainBodies μ' → Plain t' → Lives t' μ μ' ls
settles {t'} {μ} {μ'} {ls} e s b p = record { labels = ls; live = plain_at t' ls e p; turn = as_before s; bodies = b }

module _ {Q : Meaning} where
  pub lives : {t t' : Term} {μ μ' : Bindings} (ls : List ℕ) → PlainBodies μ → Step Q t μ t' μ' → Live t ls → Lives t' μ μ' ls
  lives ls st (e_context F {t = t} {t' = t'} p s) h =
      let k = live_part F t ls p (quiet s).0 h in let a = lives ls st s k.1 in
      record { labels = a.labels; live = live_plug F t' a.labels p k.0 a.live; turn = a.turn; bodies = a.bodies }
  lives ls st (e_executing {l = l} s) h =
      let a = lives h.0 st s h.2 in
      record {
        labels = l ∷ a.labels;
        live = (a.labels, refl, a.live, h.3, h.4);
        turn = rw h.1 (deeper a.turn);
        bodies = a.bodies;
      }
  lives ls st (line (e_pause F t v p)) h =
      let k = live_part F (suspension t v) ls p refl h in let s = k.1 in
      record { labels = ls; live = (s.0, plain_plug F t k.0 s.1, s.2, s.3); turn = as_before unchanged; bodies = st }
  lives ls st (line (e_apply {x = x} {b = b} {v = v} e)) h =
      let k = value_live v ls e h.1 in settles k.1 unchanged st (plain_replace x v k.0 b h.0)
  lives ls st (line (e_apply_coroutine {x = x} {b = b} {v = v} e)) h =
      let k = value_live v ls e h.1 in settles k.1 unchanged st (plain_replace x v k.0 b h.0)
  lives ls st (line (e_fix {x = x} {r = r} {b = b})) h =
      settles h.1 unchanged st (plain_replace x (fix (abstraction x r b)) h.0 b h.0)
  lives ls st (line (e_yield {v = v} e)) h =
      let k = value_live v ls e h in record { labels = ls; live = (k.1, tt, k.0, e); turn = as_before unchanged; bodies = st }
  lives ls st (line (e_start {i = i} {x = x} {b = b} {v = v} {μ = μ} e)) h =
      let k = value_live v ls e h.1 in let γ : Binding = ready i (replace x v b) in
      settles k.1 (appended γ) (bodies_change γ (at_appended μ γ) (plain_replace x v k.0 b h.0) st) tt
  lives ls st (line (e_resume_ready {l = l} {i = i} {t = t} {b = b} {c = c} {d = d} {μ = μ} vb vc vd e)) h =
      let m = passed (is_value b) _ _ vb h.1 in let n = passed (is_value c) _ _ vc m.1 in let k = value_live d ls vd n.1 in
      record {
        labels = l ∷ [];
        live = ([], refl, plain_live t (st.plain l i t e), (vb, vc, vd), (m.0, n.0, k.0));
        turn = rw k.1 (entered e refl);
        bodies = bodies_change (empty i) (at_put μ l (empty i)) tt st;
      }
  lives ls st (line (e_resume_empty {b = b} {c = c} {d = d} vb vc vd e)) h =
      let m = passed (is_value b) _ _ vb h.1 in let n = passed (is_value c) _ _ vc m.1 in let k = value_live d ls vd n.1 in
      settles k.1 unchanged st (k.0, tt)
  lives ls st (line (e_capture {l = l} {i = i} {t = t} {v = v} {c = c} {μ = μ} e)) h =
      let s = h.2 in let z : ls ≡ l ∷ [] = h.1 ∙ ap (λ k. l ∷ k) s.0 in
      record {
        labels = [];
        live = plain_live (application c v) (h.4.1, s.2);
        turn = rw z (captured i t refl);
        bodies = bodies_change (ready i t) (at_put μ l (ready i t)) s.1 st;
      }
  lives ls st (line (e_terminate {l = l} {v = v} {b = b} ev e)) h =
      let k = value_live v h.0 ev h.2 in let z : ls ≡ l ∷ [] = h.1 ∙ ap (λ k. l ∷ k) k.1 in
      record { labels = []; live = plain_live (application b v) (h.4.0, k.0); turn = rw z (completed unchanged); bodies = st }
  lives ls st (line (e_snapshot {l = l} {β = β} {μ = μ} e)) h = settles h (appended β) (bodies_change β (at_appended μ β) (copy β e) st) tt
    where
      copy : (γ : Binding) → at μ l ≡ Some γ → PlainIn γ
      copy (empty i) q = tt
      copy (ready i t) q = st.plain l i t q
  lives ls st (line (e_operate e p q)) h = settles h.1 unchanged st tt

  pub keeps_shape : {t t' : Term} {μ μ' : Bindings} → Step Q t μ t' μ' → Shaped t μ → Shaped t' μ'
  keeps_shape {t' = t'} s h =
      let a = lives h.labels h.bodies s (on→live h.active) in let k = turned a.turn h.distinct h.empties in
      record { labels = a.labels; active = live→on t' a.labels a.live; distinct = k.0; empties = k.1; bodies = a.bodies }

pub take_shape : {t v : Term} {μ : Bindings} → Shaped (suspension t v) μ → Shaped t μ
take_shape {t} h = record { labels = []; active = p_plain (on→live h.active).1; distinct = tt; empties = tt; bodies = h.bodies }

pub shape_kept : ShapeKept
shape_kept Q t μ h = (λ t' μ' s. keeps_shape s h, λ u v e. take_shape (subst (λ w. Shaped w μ) e h))
