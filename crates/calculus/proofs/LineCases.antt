-- Which line applies at a resumption, and which at a resume.
use Rattle.std.proofs.Common.{◌≡◌, ℕ, ◌⊎◌, Some, refl, inl, inr, arith}
use Rattle.quantities.specs.Meaning.{Meaning}
use Rattle.calculus.specs.Lists.{at, put}
use Rattle.calculus.specs.Terms.{Term, application, resume, instance, resumption, suspension, Value}
use Rattle.calculus.specs.Configurations.{empty, ready, Bindings}
use Rattle.calculus.specs.Frames.{plug}
use Rattle.calculus.specs.Lines.{Line, e_pause, e_apply, e_apply_coroutine, e_fix, e_yield, e_start, e_resume_ready, e_resume_empty, e_capture, e_terminate, e_snapshot, e_operate}
use Rattle.calculus.proofs.PlainParts.{no_resumption}

-- the binding is empty; a suspension is captured, or a value terminates the resumption
pub record AtResumption (l : ℕ) (a b c : Term) (μ : Bindings) (t' : Term) (μ' : Bindings) : Type 0 where
  pub row : ℕ
  pub binding_empty : at μ l ≡ Some (empty row)
  pub comes :
      ((u : Term) × (v : Term) × (a ≡ suspension u v) × (t' ≡ application c v) × (μ' ≡ put μ l (ready row u))) ⊎
      (Value a × (t' ≡ application b a) × (μ' ≡ μ))

value_instance : (l r : ℕ) {a : Term} → instance l r ≡ a → Value a
value_instance l r e = rw (← e)

module _ {Q : Meaning} {l : ℕ} {a b c d : Term} where
  pub at_resumption : {t t' : Term} {μ μ' : Bindings} → Line Q t μ t' μ' → t ≡ resumption l a b c d → AtResumption l a b c μ t' μ'
  at_resumption (e_pause F t v p) e = absurd (no_resumption F (suspension t v) e)
  at_resumption (e_apply v) e = let z : ◌≡◌ {A = ℕ} 0 1 = cc in absurd (omega arith)
  at_resumption (e_apply_coroutine v) e = let z : ◌≡◌ {A = ℕ} 0 1 = cc in absurd (omega arith)
  at_resumption e_fix e = let z : ◌≡◌ {A = ℕ} 0 1 = cc in absurd (omega arith)
  at_resumption (e_yield v) e = let z : ◌≡◌ {A = ℕ} 0 1 = cc in absurd (omega arith)
  at_resumption (e_start v) e = let z : ◌≡◌ {A = ℕ} 0 1 = cc in absurd (omega arith)
  at_resumption (e_resume_ready vb vc vd h) e = let z : ◌≡◌ {A = ℕ} 0 1 = cc in absurd (omega arith)
  at_resumption (e_resume_empty vb vc vd h) e = let z : ◌≡◌ {A = ℕ} 0 1 = cc in absurd (omega arith)
  at_resumption (e_capture {i = i} {t = u} {v = v} h) e =
      record { row = i; binding_empty = cc; comes = inl (u, v, cc, cc, cc) }
  at_resumption (e_terminate {i = i} v h) e = record { row = i; binding_empty = cc; comes = inr (cc, cc, refl) }
  at_resumption (e_snapshot h) e = let z : ◌≡◌ {A = ℕ} 0 1 = cc in absurd (omega arith)
  at_resumption (e_operate s p q) e = let z : ◌≡◌ {A = ℕ} 0 1 = cc in absurd (omega arith)

module _ {Q : Meaning} {a b c d : Term} where
  -- a pause, or all four parts are values
  pub at_resume : {t t' : Term} {μ μ' : Bindings} → Line Q t μ t' μ' → t ≡ resume a b c d →
      ((u : Term) × (v : Term) × (t' ≡ suspension u v)) ⊎ (Value a × Value b × Value c × Value d)
  at_resume (e_pause F t v p) e = inl (plug F t, v, refl)
  at_resume (e_apply v) e = let z : ◌≡◌ {A = ℕ} 0 1 = cc in absurd (omega arith)
  at_resume (e_apply_coroutine v) e = let z : ◌≡◌ {A = ℕ} 0 1 = cc in absurd (omega arith)
  at_resume e_fix e = let z : ◌≡◌ {A = ℕ} 0 1 = cc in absurd (omega arith)
  at_resume (e_yield v) e = let z : ◌≡◌ {A = ℕ} 0 1 = cc in absurd (omega arith)
  at_resume (e_start v) e = let z : ◌≡◌ {A = ℕ} 0 1 = cc in absurd (omega arith)
  at_resume (e_resume_ready {l = k} {r = r} vb vc vd h) e = inr (value_instance k r (cc), cc, cc, cc)
  at_resume (e_resume_empty {l = k} {r = r} vb vc vd h) e = inr (value_instance k r (cc), cc, cc, cc)
  at_resume (e_capture h) e = let z : ◌≡◌ {A = ℕ} 0 1 = cc in absurd (omega arith)
  at_resume (e_terminate v h) e = let z : ◌≡◌ {A = ℕ} 0 1 = cc in absurd (omega arith)
  at_resume (e_snapshot h) e = let z : ◌≡◌ {A = ℕ} 0 1 = cc in absurd (omega arith)
  at_resume (e_operate s p q) e = let z : ◌≡◌ {A = ℕ} 0 1 = cc in absurd (omega arith)
