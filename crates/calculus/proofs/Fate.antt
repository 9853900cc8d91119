-- Fate: a typed term is a value, a suspension, makes a step, or is stuck.
use Rattle.std.proofs.Common.{◌≡◌, ℕ, suc, ◌⊎◌, [], Some, refl, inl, inr, arith}
use Rattle.quantities.specs.declared.Signature.{Signature}
use Rattle.quantities.specs.Meaning.{Meaning}
use Rattle.calculus.specs.Lists.{at}
use Rattle.calculus.specs.Terms.{Term, unit, variable, abstraction, coroutine, application, yield, start, resume, snapshot, fix, atom, operation, instance, resumption, suspension, Value}
use Rattle.calculus.specs.Rows.{Setting, WellFormed}
use Rattle.calculus.specs.Typing.{Typed}
use Rattle.calculus.specs.Configurations.{Binding, empty, ready, Bindings, rows}
use Rattle.calculus.specs.Frames.{Frame, application_left, application_right, yield_frame, start_left, start_right, resume_first, resume_second, resume_third, resume_fourth, snapshot_frame, fix_frame, operation_left, operation_right, plug, Proper}
use Rattle.calculus.specs.Places.{path}
use Rattle.calculus.specs.Lines.{e_pause, e_apply, e_apply_coroutine, e_fix, e_yield, e_start, e_resume_ready, e_resume_empty, e_capture, e_terminate, e_snapshot, e_operate}
use Rattle.calculus.specs.Steps.{Step, line, e_context, e_executing}
use Rattle.calculus.specs.Outcomes.{Stuck}
use Rattle.calculus.proofs.Inversion.{Takes, inverse}
use Rattle.calculus.proofs.Rows.{closed}
use Rattle.calculus.proofs.Bindings.{at_unrows}
use Rattle.calculus.proofs.Values.{looks}
use Rattle.calculus.proofs.Stuck.{stuck_plug, stuck_executing}

pub data Fate (Q : Meaning) (t : Term) (μ : Bindings) : Type 0 where
  rests : Value t → Fate Q t μ
  offers : (u v : Term) → t ≡ suspension u v → Fate Q t μ
  goes : {t' : Term} {μ' : Bindings} → Step Q t μ t' μ' → Fate Q t μ
  halts : Stuck t μ → Fate Q t μ

in_frame : {Q : Meaning} (F : Frame) (t : Term) (μ : Bindings) → Proper F → Fate Q t μ → (Value t → Fate Q (plug F t) μ) →
    Fate Q (plug F t) μ
in_frame F t μ p (rests v) last = last v
in_frame F t μ p (offers u v e) last = rw e (goes (line (e_pause F u v p)))
in_frame F t μ p (goes s) last = goes (e_context F p s)
in_frame F t μ p (halts k) last = halts (stuck_plug F t μ p k)

module _ {S : Setting} (L : WellFormed S) (μ : Bindings) where
  fate_apply : {T Y A r : ℕ} (f a : Term) → Takes S r A T Y → Typed S (rows μ) [] f r Y → Value f → Value a →
      Fate S.set (application f a) μ
  fate_apply f a (inl e) d vf va = let k = looks L vf d e in rw k.2 (goes (line (e_apply va)))
  fate_apply f a (inr e) d vf va = let k = looks L vf d e in rw k.2 (goes (line (e_apply_coroutine va)))

  fate_resume : (l r : ℕ) (b c d : Term) (β : Binding) → at μ l ≡ Some β → Value b → Value c → Value d →
      Fate S.set (resume (instance l r) b c d) μ
  fate_resume l r b c d (empty i) e vb vc vd = goes (line (e_resume_empty vb vc vd e))
  fate_resume l r b c d (ready i t) e vb vc vd = goes (line (e_resume_ready vb vc vd e))

  stuck_here : (l i : ℕ) (t a b c d : Term) → at μ l ≡ Some (ready i t) → path (resumption l a b c d) ≡ [] →
      Value a ⊎ ((u : Term) × (v : Term) × (a ≡ suspension u v)) → Stuck (resumption l a b c d) μ
  stuck_here l i t a b c d e q h = record {
    label = l;
    body = a;
    of_result = b;
    of_yield = c;
    of_neither = d;
    last_is = rw q;
    body_is = h;
    row = i;
    ready_body = t;
    binding_ready = e;
  }

  fate_resumption : (l : ℕ) (a b c d : Term) (β : Binding) → at μ l ≡ Some β → Fate S.set a μ → Fate S.set (resumption l a b c d) μ
  fate_resumption l a b c d (empty i) e (rests v) = goes (line (e_terminate v e))
  fate_resumption l a b c d (empty i) e (offers u v q) = rw q (goes (line (e_capture e)))
  fate_resumption l a b c d (ready i t) e (rests v) = halts (stuck_here l i t a b c d e (rw v) (inl v))
  fate_resumption l a b c d (ready i t) e (offers u v q) = halts (stuck_here l i t a b c d e (rw q) (inr (u, v, q)))
  fate_resumption l a b c d β e (goes s) = goes (e_executing s)
  fate_resumption l a b c d β e (halts k) = halts (stuck_executing l a b c d μ k)

  fate_operate : {Y Z : ℕ} {s : Signature} (o : ℕ) (a b : Term) → S.set.signature o ≡ Some s →
      Typed S (rows μ) [] a (suc (suc s.first)) Y → Typed S (rows μ) [] b (suc (suc s.second)) Z →
      Value a → Value b → Fate S.set (operation o a b) μ
  fate_operate o a b e da db va vb =
      let c = closed L o _ e in let p = looks L va da (L.table_formed.row_base _ c.0) in
      let q = looks L vb db (L.table_formed.row_base _ c.1) in
      rw (p.1, q.1) (goes (line (e_operate e p.2 q.2)))

  pub fate : (t : Term) {T Y : ℕ} → Typed S (rows μ) [] t T Y → Fate S.set t μ
  fate unit d = rests refl
  fate (variable n) d = let u = (inverse d).rule in let z : ◌≡◌ {A = ℕ} 0 1 = cc u.0 in absurd (omega arith)
  fate (abstraction x r b) d = rests refl
  fate (coroutine x r b) d = rests refl
  fate (application f a) d =
      let u = (inverse d).rule in
      in_frame (application_left a) f μ tt (fate f u.first) λ vf.
      in_frame (application_right f) a μ vf (fate a u.second) λ va. fate_apply f a u.row_takes u.first vf va
  fate (yield t) d = let u = (inverse d).rule in in_frame yield_frame t μ tt (fate t u.offered) λ v. goes (line (e_yield v))
  fate (start i f a) d =
      let u = (inverse d).rule in
      in_frame (start_left i a) f μ tt (fate f u.first) λ vf.
      in_frame (start_right i f) a μ vf (fate a u.second) λ va.
      let q = looks L vf u.first u.row_is in rw q.2 (goes (line (e_start va)))
  fate (resume a b c d) k =
      let u = (inverse k).rule in
      in_frame (resume_first b c d) a μ tt (fate a u.first) λ va.
      in_frame (resume_second a c d) b μ va (fate b u.second) λ vb.
      in_frame (resume_third a b d) c μ (va, vb) (fate c u.third) λ vc.
      in_frame (resume_fourth a b c) d μ (va, vb, vc) (fate d u.fourth) λ vd.
      let q = looks L va u.first u.row_is in let z = at_unrows μ _ _ q.2 in
      rw q.1 (fate_resume _ _ b c d z.0 z.1 vb vc vd)
  fate (snapshot t) d =
      let u = (inverse d).rule in
      in_frame snapshot_frame t μ tt (fate t u.copied) λ v.
      let q = looks L v u.copied u.row_is in let z = at_unrows μ _ _ q.2 in rw q.1 (goes (line (e_snapshot z.1)))
  fate (fix t) d =
      let u = (inverse d).rule in
      in_frame fix_frame t μ tt (fate t u.function) λ v.
      let q = looks L v u.function u.row_is in rw q.2 (goes (line e_fix))
  fate (atom b p) d = rests refl
  fate (operation o a b) d =
      let u = (inverse d).rule in
      in_frame (operation_left o b) a μ tt (fate a u.first) λ va.
      in_frame (operation_right o a) b μ va (fate b u.second) λ vb.
      fate_operate o a b u.signature_is u.first u.second va vb
  fate (instance l r) d = rests refl
  fate (resumption l a b c d) k =
      let u = (inverse k).rule in let z = at_unrows μ l _ u.label_is in
      fate_resumption l a b c d z.0 z.1 (fate a u.body)
  fate (suspension t v) d = offers t v refl
