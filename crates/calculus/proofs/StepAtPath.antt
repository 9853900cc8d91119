-- A step happens at the path's last term.
use Rattle.std.proofs.Common.{◌≡◌, ℕ, false, [], ◌∷◌, Some, sym, refl, ap, ◌∙◌, arith}
use Rattle.quantities.specs.Meaning.{Meaning}
use Rattle.calculus.specs.Terms.{Term, unit, variable, abstraction, coroutine, application, yield, start, resume, snapshot, fix, atom, operation, instance, resumption, suspension, is_suspension}
use Rattle.calculus.specs.Occurrences.{Position, term_at, put_at}
use Rattle.calculus.specs.Configurations.{Bindings}
use Rattle.calculus.specs.Frames.{Frame, plug, Proper}
use Rattle.calculus.specs.Places.{path}
use Rattle.calculus.specs.Lines.{Line, e_pause, e_apply, e_apply_coroutine, e_fix, e_yield, e_start, e_resume_ready, e_resume_empty, e_capture, e_terminate, e_snapshot, e_operate}
use Rattle.calculus.specs.Steps.{Step, line, e_context, e_executing, LineAtPath}
use Rattle.calculus.specs.Views.{is_other, view}
use Rattle.calculus.specs.StatementsOfPlaces.{StepAtPath}
use Rattle.calculus.proofs.StepIsNext.{quiet}
use Rattle.calculus.proofs.PathFrames.{number, term_plug, put_plug, path_plug, path_suspended, along_path}

pub no_suspension : (t : Term) → view t ≡ is_other → is_suspension t ≡ false
no_suspension unit e = refl
no_suspension (variable n) e = refl
no_suspension (abstraction x r b) e = refl
no_suspension (coroutine x r b) e = refl
no_suspension (application f a) e = refl
no_suspension (yield t) e = refl
no_suspension (start i f a) e = refl
no_suspension (resume a b c d) e = refl
no_suspension (snapshot t) e = refl
no_suspension (fix t) e = refl
no_suspension (atom k p) e = refl
no_suspension (operation o a b) e = refl
no_suspension (instance l r) e = refl
no_suspension (resumption l a b c d) e = refl
no_suspension (suspension t v) e = let z : ◌≡◌ {A = ℕ} 0 1 = cc in absurd (omega arith)

module _ {Q : Meaning} where
  -- the path ends where a line applies
  ends_at_line : {t t' : Term} {μ μ' : Bindings} → Line Q t μ t' μ' → path t ≡ []
  ends_at_line (e_pause F t v p) = path_suspended F t v p
  ends_at_line (e_apply v) = rw v
  ends_at_line (e_apply_coroutine v) = rw v
  ends_at_line e_fix = refl
  ends_at_line (e_yield v) = rw v
  ends_at_line (e_start v) = rw v
  ends_at_line (e_resume_ready b c d e) = rw (b, c, d)
  ends_at_line (e_resume_empty b c d e) = rw (b, c, d)
  ends_at_line (e_capture e) = refl
  ends_at_line (e_terminate v e) = rw v
  ends_at_line (e_snapshot e) = refl
  ends_at_line (e_operate s p q) = refl

  pub at_path : {t t' : Term} {μ μ' : Bindings} → Step Q t μ t' μ' → LineAtPath Q t μ t' μ'
  at_path {t} {t'} (line l) =
      let e = ends_at_line l in record { last = t; becomes = t'; last_is = rw e; its_line = l; whole = rw e }
  at_path (e_context F {t = t} p s) =
      let a = at_path s in let e = path_plug F t p (quiet s).0 (no_suspension t (quiet s).1) in
      record {
        last = a.last;
        becomes = a.becomes;
        last_is = rw e (term_plug F t (path t) ∙ a.last_is);
        its_line = a.its_line;
        whole = rw e (ap (plug F) a.whole ∙ sym (put_plug F t (path t) a.becomes));
      }
  at_path (e_executing {l = l} {t = t} {b = b} {c = c} {d = d} s) =
      let a = at_path s in
      record {
        last = a.last;
        becomes = a.becomes;
        last_is = rw ((quiet s).0, no_suspension t (quiet s).1) a.last_is;
        its_line = a.its_line;
        whole = rw ((quiet s).0, no_suspension t (quiet s).1) (ap (λ u. resumption l u b c d) a.whole);
      }

-- a line at position q of t gives a step of t
pub record Steps (Q : Meaning) (t : Term) (q : Position) : Type 0 where
  pub steps : (u u' : Term) (μ μ' : Bindings) → term_at t q ≡ Some u → Line Q u μ u' μ' → Step Q t μ (put_at t q u') μ'

module _ (Q : Meaning) where
  ends : (t : Term) → Steps Q t []
  ends t = record { steps = λ u u' μ μ' e l. let z : t ≡ u = cc in line (rw z l) }

  through : (F : Frame) (t : Term) (q : Position) → Proper F → Steps Q t q → Steps Q (plug F t) (number F ∷ q)
  through F t q p h = record {
    steps = λ u u' μ μ' e l. rw (put_plug F t q u') (e_context F p (h.steps u u' μ μ' (sym (term_plug F t q) ∙ e) l));
  }

  into : (l : ℕ) (a b c d : Term) (q : Position) → Steps Q a q → Steps Q (resumption l a b c d) (0 ∷ q)
  into l a b c d q h = record { steps = λ u u' μ μ' e k. e_executing (h.steps u u' μ μ' e k) }

  pub steps_at_path : (t : Term) → Steps Q t (path t)
  steps_at_path = along_path (λ t q. Steps Q t q) ends through into

pub step_at_path : StepAtPath
step_at_path Q t t' μ μ' =
    (at_path, λ a. rw a.whole ((steps_at_path Q t).steps a.last a.becomes μ μ' a.last_is a.its_line))
