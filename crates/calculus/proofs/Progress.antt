-- Outcomes: a well-typed configuration is a value, or a suspension that offers, or has exactly one successor, or is stuck; and progress.
use Rattle.std.proofs.Common.{ℕ, ◌⊎◌, [], sym, refl, ap, ◌∙◌, subst, inl, inr}
use Rattle.calculus.specs.Terms.{Term, suspension, is_value, is_suspension, Value}
use Rattle.calculus.specs.Rows.{Setting, WellFormed}
use Rattle.calculus.specs.Typing.{Typed}
use Rattle.calculus.specs.Configurations.{Bindings, rows}
use Rattle.calculus.specs.Steps.{Step, Still}
use Rattle.calculus.specs.Resumptions.{EndsOnEmpty}
use Rattle.calculus.specs.WellTyped.{WellTyped}
use Rattle.calculus.specs.Outcomes.{Offering, Going, Stuck, Outcome, OutcomeOrStuck}
use Rattle.calculus.specs.Statements.{OutcomesOfTyped, Progress}
use Rattle.calculus.proofs.Tests.{never}
use Rattle.calculus.proofs.Inversion.{inverse}
use Rattle.calculus.proofs.Agreement.{deterministic}
use Rattle.calculus.proofs.Rest.{still_value, still_suspension}
use Rattle.calculus.proofs.Values.{no_bottom}
use Rattle.calculus.proofs.Frames.{retype}
use Rattle.calculus.proofs.Preservation.{solid}
use Rattle.calculus.proofs.Stuck.{stuck_quiet, stuck_still, not_stuck}
use Rattle.calculus.proofs.Fate.{Fate, rests, offers, goes, halts, fate}

module _ (S : Setting) (L : WellFormed S) where
  offering : {u v : Term} {μ : Bindings} {T Y : ℕ} → Typed S (rows μ) [] (suspension u v) T Y → Offering S (suspension u v) μ Y
  offering {u} {v} d =
      let i = inverse d in let k = i.rule in let q = solid L k.pending_value k.pending i.reads in
      record {
        suspended = u;
        pending = v;
        term_is = refl;
        pending_value = k.pending_value;
        pending_typed = retype q k.pending;
        not_bottom = λ e. no_bottom L k.pending_value (retype (q ∙ e) k.pending);
      }

  one_of : (t : Term) (μ : Bindings) (T Y : ℕ) → WellTyped S t μ T Y → Fate S.set t μ →
      Value t ⊎ (Offering S t μ Y ⊎ (Going S.set t μ ⊎ Stuck t μ))
  one_of t μ T Y h (rests v) = inl v
  one_of t μ T Y h (offers u v e) = inr (inl (rw e (offering (subst (λ w. Typed S (rows μ) [] w T Y) e h.typed))))
  one_of t μ T Y h (goes {t' = t'} {μ' = μ'} s) =
      inr (inr (inl (record { next_term = t'; next_bindings = μ'; step = s; only = λ u ν s'. deterministic S.set s' s })))
  one_of t μ T Y h (halts k) = inr (inr (inr k))

  value_not_offering : {t : Term} {μ : Bindings} {Y : ℕ} → Value t → Offering S t μ Y → ⊥
  value_not_offering {t} v o = never (sym (ap is_value o.term_is) ∙ v)

  offering_still : {t : Term} {μ : Bindings} {Y : ℕ} → Offering S t μ Y → Still S.set t μ
  offering_still {t} {μ} o u ν s = still_suspension u ν (subst (λ w. Step S.set w μ u ν) o.term_is s)

  offering_not_stuck : {t : Term} {μ : Bindings} {Y : ℕ} → Offering S t μ Y → Stuck t μ → ⊥
  offering_not_stuck {t} o k = never (sym (stuck_quiet t k).1 ∙ ap is_suspension o.term_is)

  pub outcome_or_stuck : (t : Term) (μ : Bindings) (T Y : ℕ) → WellTyped S t μ T Y → OutcomeOrStuck S t μ Y
  outcome_or_stuck t μ T Y h = record {
    one_of = one_of t μ T Y h (fate L μ t h.typed);
    not_first_second = value_not_offering;
    not_first_third = λ v g. still_value v g.next_term g.next_bindings g.step;
    not_first_fourth = λ v k. never (sym (stuck_quiet t k).0 ∙ v);
    not_second_third = λ o g. offering_still o g.next_term g.next_bindings g.step;
    not_second_fourth = offering_not_stuck;
    not_third_fourth = λ g k. stuck_still k g.next_term g.next_bindings g.step;
  }

  pub outcome : (t : Term) (μ : Bindings) (T Y : ℕ) → WellTyped S t μ T Y → EndsOnEmpty t μ → Outcome S t μ Y
  outcome t μ T Y h e =
      let k = outcome_or_stuck t μ T Y h in
      record {
        one_of = first_three k.one_of;
        not_first_second = k.not_first_second;
        not_first_third = k.not_first_third;
        not_second_third = k.not_second_third;
      }
    where
      first_three : Value t ⊎ (Offering S t μ Y ⊎ (Going S.set t μ ⊎ Stuck t μ)) → Value t ⊎ (Offering S t μ Y ⊎ Going S.set t μ)
      first_three (inl v) = inl v
      first_three (inr (inl o)) = inr (inl o)
      first_three (inr (inr (inl g))) = inr (inr g)
      first_three (inr (inr (inr s))) = absurd (not_stuck e s)

pub outcomes_of_typed : OutcomesOfTyped
outcomes_of_typed S L t μ T Y h = outcome_or_stuck S L t μ T Y h

pub progress : Progress
progress S L t μ T Y h e = outcome S L t μ T Y h e
