-- What the rules exclude: a suspension that leaves a resumption, handlers evaluated late, an instance that runs twice.
use Rattle.std.proofs.Common.{◌≡◌, ℕ, true, false, ◌⊎◌, Some, Option, sym, refl, ap, ◌∙◌, subst, inl, inr}
use Rattle.quantities.specs.Meaning.{Meaning}
use Rattle.calculus.specs.Lists.{at, put}
use Rattle.calculus.specs.Terms.{Term, unit, application, resume, instance, resumption, suspension}
use Rattle.calculus.specs.Occurrences.{put_at}
use Rattle.calculus.specs.Configurations.{empty, ready, Bindings, Configuration, ◌∣◌}
use Rattle.calculus.specs.Frames.{Frame, plug}
use Rattle.calculus.specs.Places.{path}
use Rattle.calculus.specs.Lines.{e_resume_empty}
use Rattle.calculus.specs.Steps.{Step, StepOf}
use Rattle.calculus.specs.Views.{View, is_abstraction, is_coroutine, is_instance, is_atom, is_suspension_term, is_other, view}
use Rattle.calculus.specs.Next.{within, moves, next}
use Rattle.calculus.specs.Statements.{Confinement, InOrder, HandlersFirst, NeverTwice}
use Rattle.calculus.proofs.Tests.{never}
use Rattle.calculus.proofs.StepIsNext.{next_plug, step→next}
use Rattle.calculus.proofs.StepAtPath.{at_path, steps_at_path}
use Rattle.calculus.proofs.Lines.{Shows, shows, within_inv}
use Rattle.calculus.proofs.LineCases.{AtResumption, at_resumption, at_resume}
use Rattle.calculus.proofs.NextIsStep.{next→step}
use Rattle.calculus.proofs.Agreement.{deterministic}
use Rattle.calculus.proofs.Resumptions.{resumptions_on_path}

the_term : {t u : Term} {μ ν : Bindings} → ◌≡◌ {A = Option Configuration} (Some (t ∣ μ)) (Some (u ∣ ν)) → t ≡ u
the_term {t} {u} {μ} {ν} e = let z : (t ∣ μ) ≡ (u ∣ ν) = cc in ap (λ (c : Configuration). c.term) z

the_bindings : {t u : Term} {μ ν : Bindings} → ◌≡◌ {A = Option Configuration} (Some (t ∣ μ)) (Some (u ∣ ν)) → μ ≡ ν
the_bindings {t} {u} {μ} {ν} e = let z : (t ∣ μ) ≡ (u ∣ ν) = cc in ap (λ (c : Configuration). c.bindings) z

-- a capture is no termination, for a suspension is no value
captured : {l : ℕ} {u v b c : Term} {μ ν : Bindings} {t' : Term} → AtResumption l (suspension u v) b c μ t' ν →
    (t' ≡ application c v) × ((i : ℕ) × (at μ l ≡ Some (empty i)) × (ν ≡ put μ l (ready i u)))
captured {l} {u} {v} {b} {c} {μ} {ν} {t'} r = go r.comes
  where
    go : ((w : Term) × (x : Term) × (suspension u v ≡ suspension w x) × (t' ≡ application c x) × (ν ≡ put μ l (ready r.row w))) ⊎
        ((false ≡ true) × (t' ≡ application b (suspension u v)) × (ν ≡ μ)) →
        (t' ≡ application c v) × ((i : ℕ) × (at μ l ≡ Some (empty i)) × (ν ≡ put μ l (ready i u)))
    go (inl k) = let e = k.2 in let f = k.3 in let g = k.4 in (cc, (r.row, r.binding_empty, cc))
    go (inr k) = never k.0

pub confinement : Confinement
confinement Q t t' μ ν l u v b c d e s =
    let a = at_path s in
    let z : a.last ≡ resumption l (suspension u v) b c d = cc a.last_is in
    let k = captured (at_resumption a.its_line z) in
    (a.whole ∙ ap (put_at t (path t)) k.0, k.1)

module _ (Q : Meaning) (F : Frame) (t t' : Term) (μ μ' : Bindings) where
  inner : within (plug F) (next Q t μ) ≡ Some (t' ∣ μ') → StepOf Q F t μ t' μ'
  inner e =
      let k = within_inv (plug F) (next Q t μ) e in
      let s : Step Q t μ k.0.term μ' = subst (λ ν. Step Q t μ k.0.term ν) (the_bindings k.2) (next→step Q t μ k.0 k.1) in
      inl (k.0.term, s, sym (the_term k.2))

  of_view : (w : View) → Shows t w → moves F w μ (next Q t μ) ≡ Some (t' ∣ μ') → StepOf Q F t μ t' μ'
  of_view (is_abstraction x r b) h e = inner e
  of_view (is_coroutine x r b) h e = inner e
  of_view (is_instance l r) h e = inner e
  of_view (is_atom k p) h e = inner e
  of_view (is_suspension_term u v) h e = inr (u, v, h, sym (the_term e), sym (the_bindings e))
  of_view is_other h e = inner e

pub in_order : InOrder
in_order Q F t t' μ μ' p v s = of_view Q F t t' μ μ' (view t) (shows t) (sym (next_plug Q F t μ p v) ∙ step→next Q s)

pub handlers_first : HandlersFirst
handlers_first Q a b c d t' μ μ' l = at_resume l refl

pub never_twice : NeverTwice
never_twice Q t μ p l r b c d h a e vb vc vd =
    let k = (resumptions_on_path t μ h).binding_empty p l a in
    let n = (steps_at_path Q t).steps (resume (instance l r) b c d) (application d unit) μ μ e (e_resume_empty vb vc vd k.1) in
    (n, λ u ν s. deterministic Q s n)
