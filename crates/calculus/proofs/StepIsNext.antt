-- Every step is the one that is computed.
use Rattle.std.proofs.Common.{◌≡◌, false, Some, refl, ◌∙◌}
use Rattle.quantities.specs.Meaning.{Meaning}
use Rattle.calculus.specs.Terms.{Term, suspension, is_value}
use Rattle.calculus.specs.Configurations.{Bindings, ◌∣◌}
use Rattle.calculus.specs.Frames.{Frame, application_left, application_right, yield_frame, start_left, start_right, resume_first, resume_second, resume_third, resume_fourth, snapshot_frame, fix_frame, operation_left, operation_right, plug, Proper}
use Rattle.calculus.specs.Lines.{e_pause, e_apply, e_apply_coroutine, e_fix, e_yield, e_start, e_resume_ready, e_resume_empty, e_capture, e_terminate, e_snapshot, e_operate}
use Rattle.calculus.specs.Steps.{Step, line, e_context, e_executing}
use Rattle.calculus.specs.Views.{is_other, view}
use Rattle.calculus.specs.Next.{moves, next}
use Rattle.calculus.proofs.Tests.{eqb_self}

pub plug_quiet : (F : Frame) (t : Term) → (is_value (plug F t) ≡ false) × (view (plug F t) ≡ is_other)
plug_quiet (application_left a) t = (refl, refl)
plug_quiet (application_right f) t = (refl, refl)
plug_quiet yield_frame t = (refl, refl)
plug_quiet (start_left i a) t = (refl, refl)
plug_quiet (start_right i f) t = (refl, refl)
plug_quiet (resume_first b c d) t = (refl, refl)
plug_quiet (resume_second a c d) t = (refl, refl)
plug_quiet (resume_third a b d) t = (refl, refl)
plug_quiet (resume_fourth a b c) t = (refl, refl)
plug_quiet snapshot_frame t = (refl, refl)
plug_quiet fix_frame t = (refl, refl)
plug_quiet (operation_left o b) t = (refl, refl)
plug_quiet (operation_right o a) t = (refl, refl)

module _ {Q : Meaning} where
  -- what steps is no value and no suspension
  pub quiet : {t t' : Term} {μ μ' : Bindings} → Step Q t μ t' μ' → (is_value t ≡ false) × (view t ≡ is_other)
  quiet (e_context F p s) = plug_quiet F _
  quiet (e_executing s) = (refl, refl)
  quiet (line (e_pause F t v p)) = plug_quiet F _
  quiet (line (e_apply v)) = (refl, refl)
  quiet (line (e_apply_coroutine v)) = (refl, refl)
  quiet (line e_fix) = (refl, refl)
  quiet (line (e_yield v)) = (refl, refl)
  quiet (line (e_start v)) = (refl, refl)
  quiet (line (e_resume_ready b c d e)) = (refl, refl)
  quiet (line (e_resume_empty b c d e)) = (refl, refl)
  quiet (line (e_capture e)) = (refl, refl)
  quiet (line (e_terminate v e)) = (refl, refl)
  quiet (line (e_snapshot e)) = (refl, refl)
  quiet (line (e_operate s p q)) = (refl, refl)

module _ (Q : Meaning) where
  pub next_plug : (F : Frame) (t : Term) (μ : Bindings) → Proper F → is_value t ≡ false →
      next Q (plug F t) μ ≡ moves F (view t) μ (next Q t μ)
  unfolding next
  next_plug (application_left a) t μ p e = rw e
  next_plug (application_right f) t μ p e = rw (p, e)
  next_plug yield_frame t μ p e = rw e
  next_plug (start_left i a) t μ p e = rw e
  next_plug (start_right i f) t μ p e = rw (p, e)
  next_plug (resume_first b c d) t μ p e = rw e
  next_plug (resume_second a c d) t μ p e = rw (p, e)
  next_plug (resume_third a b d) t μ p e = rw (p.0, p.1, e)
  next_plug (resume_fourth a b c) t μ p e = rw (p.0, p.1, p.2, e)
  next_plug snapshot_frame t μ p e = rw e
  next_plug fix_frame t μ p e = rw e
  next_plug (operation_left o b) t μ p e = rw e
  next_plug (operation_right o a) t μ p e = rw (p, e)

  pub step→next : {t t' : Term} {μ μ' : Bindings} → Step Q t μ t' μ' → next Q t μ ≡ Some (t' ∣ μ')
  unfolding next
  step→next (e_context F p s) = next_plug F _ _ p (quiet s).0 ∙ rw ((quiet s).1, step→next s)
  step→next (e_executing s) = rw ((quiet s).0, (quiet s).1, step→next s)
  step→next (line (e_pause F t v p)) = next_plug F (suspension t v) _ p refl
  step→next (line (e_apply v)) = rw v
  step→next (line (e_apply_coroutine v)) = rw v
  step→next (line e_fix) = refl
  step→next (line (e_yield v)) = rw v
  step→next (line (e_start v)) = rw v
  step→next (line (e_resume_ready b c d e)) = rw (b, c, d, e)
  step→next (line (e_resume_empty b c d e)) = rw (b, c, d, e)
  step→next (line (e_capture e)) = rw e
  step→next (line (e_terminate v e)) = rw (v, e)
  step→next (line (e_snapshot e)) = rw e
  step→next (line (e_operate {s = s} e p q)) = rw (e, eqb_self s.first, eqb_self s.second, p, q)
