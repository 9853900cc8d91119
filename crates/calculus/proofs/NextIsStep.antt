-- What is computed is a step.
use Rattle.std.proofs.Common.{◌≡◌, Some, refl}
use Rattle.quantities.specs.Meaning.{Meaning}
use Rattle.calculus.specs.Terms.{Term, unit, variable, abstraction, coroutine, application, yield, start, resume, snapshot, fix, atom, operation, instance, resumption, suspension}
use Rattle.calculus.specs.Configurations.{Bindings, Configuration}
use Rattle.calculus.specs.Frames.{application_left, application_right, yield_frame, start_left, start_right, resume_first, resume_second, resume_third, resume_fourth, snapshot_frame, fix_frame, operation_left, operation_right}
use Rattle.calculus.specs.Lines.{e_yield}
use Rattle.calculus.specs.Steps.{line}
use Rattle.calculus.specs.Views.{view}
use Rattle.calculus.specs.Next.{next}
use Rattle.calculus.proofs.Lines.{shows, Goes, conv, none_goes, by_first, line_apply, line_fix, line_start, line_resume, line_snapshot, line_operate, line_resumption}

module _ (Q : Meaning) where
  pub next→step : (t : Term) (μ : Bindings) (c : Configuration) → next Q t μ ≡ Some c → Goes Q t μ c
  unfolding next
  next→step unit μ c e = none_goes e
  next→step (variable n) μ c e = none_goes e
  next→step (abstraction x r b) μ c e = none_goes e
  next→step (coroutine x r b) μ c e = none_goes e
  next→step (application f a) μ c e =
      by_first Q (application_left a) f μ _ c tt (next→step f μ)
      (λ vf. by_first Q (application_right f) a μ _ c vf (next→step a μ) (λ va. line_apply Q f a μ c va (view f) (shows f))) e
  next→step (yield t) μ c e = by_first Q yield_frame t μ _ c tt (next→step t μ) (λ v q. conv refl q (line (e_yield v))) e
  next→step (start i f a) μ c e =
      by_first Q (start_left i a) f μ _ c tt (next→step f μ)
      (λ vf. by_first Q (start_right i f) a μ _ c vf (next→step a μ) (λ va. line_start Q i f a μ c va (view f) (shows f))) e
  next→step (resume a b c d) μ k e =
      by_first Q (resume_first b c d) a μ _ k tt (next→step a μ)
      (λ va. by_first Q (resume_second a c d) b μ _ k va (next→step b μ)
      (λ vb. by_first Q (resume_third a b d) c μ _ k (va, vb) (next→step c μ)
      (λ vc. by_first Q (resume_fourth a b c) d μ _ k (va, vb, vc) (next→step d μ)
      (λ vd. line_resume Q a b c d μ k vb vc vd (view a) (shows a))))) e
  next→step (snapshot t) μ c e = by_first Q snapshot_frame t μ _ c tt (next→step t μ) (λ v. line_snapshot Q t μ c (view t) (shows t)) e
  next→step (fix t) μ c e = by_first Q fix_frame t μ _ c tt (next→step t μ) (λ v. line_fix Q t μ c (view t) (shows t)) e
  next→step (atom k p) μ c e = none_goes e
  next→step (operation o a b) μ c e =
      by_first Q (operation_left o b) a μ _ c tt (next→step a μ)
      (λ va. by_first Q (operation_right o a) b μ _ c va (next→step b μ) (λ vb. line_operate Q o a b μ c (view a) (shows a))) e
  next→step (instance l r) μ c e = none_goes e
  next→step (resumption l a b c d) μ k e = line_resumption Q l a b c d μ k (next→step a μ) e
  next→step (suspension t v) μ c e = none_goes e
