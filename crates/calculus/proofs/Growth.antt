-- The rows of the bindings stay as they are in a step, or grow at the end by that of the start or of the copied binding.
use Rattle.std.proofs.Common.{◌≡◌, Some, refl}
use Rattle.quantities.specs.Meaning.{Meaning}
use Rattle.calculus.specs.Terms.{Term}
use Rattle.calculus.specs.Replacement.{replace}
use Rattle.calculus.specs.Occurrences.{term_at}
use Rattle.calculus.specs.Configurations.{empty, ready, row_of, Bindings}
use Rattle.calculus.specs.Places.{path}
use Rattle.calculus.specs.Lines.{Line, e_pause, e_apply, e_apply_coroutine, e_fix, e_yield, e_start, e_resume_ready, e_resume_empty, e_capture, e_terminate, e_snapshot, e_operate}
use Rattle.calculus.specs.Steps.{Step, of_start, of_snapshot, Growth, same_rows, one_more}
use Rattle.calculus.proofs.StepAtPath.{at_path}
use Rattle.calculus.proofs.Bindings.{rows_append, rows_put}

module _ {Q : Meaning} where
  line_grows : {t u u' : Term} {μ μ' : Bindings} → term_at t (path t) ≡ Some u → Line Q u μ u' μ' → Growth t μ μ'
  line_grows h (e_pause F t v p) = same_rows refl
  line_grows h (e_apply v) = same_rows refl
  line_grows h (e_apply_coroutine v) = same_rows refl
  line_grows h e_fix = same_rows refl
  line_grows h (e_yield v) = same_rows refl
  line_grows h (e_start {i = i} {x = x} {b = b} {v = v} {μ = μ} e) = one_more i (of_start h e) (rows_append μ (ready i (replace x v b)))
  line_grows h (e_resume_ready {l = l} {i = i} {t = t} {μ = μ} b c d e) = same_rows (rows_put μ l (ready i t) (empty i) e refl)
  line_grows h (e_resume_empty b c d e) = same_rows refl
  line_grows h (e_capture {l = l} {i = i} {t = t} {μ = μ} e) = same_rows (rows_put μ l (empty i) (ready i t) e refl)
  line_grows h (e_terminate v e) = same_rows refl
  line_grows h (e_snapshot {β = β} {μ = μ} e) = one_more (row_of β) (of_snapshot h e refl) (rows_append μ β)
  line_grows h (e_operate s p q) = same_rows refl

  pub grows : {t t' : Term} {μ μ' : Bindings} → Step Q t μ t' μ' → Growth t μ μ'
  grows s = let a = at_path s in line_grows a.last_is a.its_line
