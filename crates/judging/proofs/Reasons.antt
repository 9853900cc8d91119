-- The number of a refusal by the rule of a term's kind says why.
use Rattle.std.proofs.Common.{◌≡◌, ℕ, ◌+◌, Bool, true, false, cond, ◌&&◌, ltb, ◌↔◌, List, Some, None, Ok, Err, Option, sym, refl, ap, ◌∙◌, ⊎_elim, arith}
use Rattle.std.proofs.lemmas.Bool.{lt-ltb}
use Rattle.faults.specs.declared.Fault.{Fault}
use Rattle.faults.specs.declared.numbers.FaultNumber.{FaultNumber}
use Rattle.faults.specs.declared.numbers.FaultNumber.TheVariants.{Scope as OfScope, Quantity, Types, YieldType}
use Rattle.faults.specs.Numbers.{number_of}
use Rattle.quantities.specs.declared.Signature.{Signature}
use Rattle.rules.specs.declared.model.Judged.{Judged}
use Rattle.rules.specs.declared.model.Variable.{Variable}
use Rattle.rules.specs.Rules.{Verdict, accepted, refused, look as look_up, variable_rule, operation_rule}
use Rattle.calculus.specs.Terms.{Term, unit, variable, abstraction, coroutine, application, yield, start, resume, snapshot, fix, atom, operation, instance, resumption, suspension}
use Rattle.calculus.specs.Rows.{Setting}
use Rattle.calculus.specs.Typing.{Scope}
use Rattle.judging.specs.Answers.{scope_of}
use Rattle.judging.specs.Places.{OutOfScope, OutOfSet}
use Rattle.judging.specs.Places.OutOfScope.{unbound}
use Rattle.judging.specs.Places.OutOfSet.{not_held, no_signature}
use Rattle.judging.proofs.Same.{look_same}
use Rattle.judging.proofs.Ruled.{ruled}
use Rattle.judging.proofs.Fits.{quiet, Fit, place_of, number_refused, not_accepted, not_refused, fit_types, fit_abstraction, fit_coroutine_rule, fit_application, fit_yield, fit_start, fit_resume, fit_snapshot, fit_fix, fit_operation}

-- Why a term is refused by number n, where q is what its rule says of its parts with yield type ⊥.
pub record Why (S : Setting) (Γ : Scope) (t : Term) (q : Verdict) (n : FaultNumber) : Type 0 where
  pub scope : (n ≡ OfScope) ↔ OutOfScope Γ t
  pub quantity : (n ≡ Quantity) ↔ OutOfSet S t
  pub yield_type : (n ≡ YieldType) ↔ ((j : Judged) × (q ≡ Ok j))
  pub otherwise : (OutOfScope Γ t → ⊥) → (OutOfSet S t → ⊥) → (((j : Judged) × (q ≡ Ok j)) → ⊥) → n ≡ Types

abbrev IsVariable : Term → Type 0
IsVariable unit = ⊥
IsVariable (variable x) = Unit {0}
IsVariable (abstraction x r b) = ⊥
IsVariable (coroutine x r b) = ⊥
IsVariable (application f a) = ⊥
IsVariable (yield a) = ⊥
IsVariable (start r f a) = ⊥
IsVariable (resume a b c d) = ⊥
IsVariable (snapshot a) = ⊥
IsVariable (fix a) = ⊥
IsVariable (atom k p) = ⊥
IsVariable (operation o a b) = ⊥
IsVariable (instance l r) = ⊥
IsVariable (resumption l a b c d) = ⊥
IsVariable (suspension a b) = ⊥

abbrev IsQuantity : Term → Type 0
IsQuantity unit = ⊥
IsQuantity (variable x) = ⊥
IsQuantity (abstraction x r b) = ⊥
IsQuantity (coroutine x r b) = ⊥
IsQuantity (application f a) = ⊥
IsQuantity (yield a) = ⊥
IsQuantity (start r f a) = ⊥
IsQuantity (resume a b c d) = ⊥
IsQuantity (snapshot a) = ⊥
IsQuantity (fix a) = ⊥
IsQuantity (atom k p) = Unit {0}
IsQuantity (operation o a b) = Unit {0}
IsQuantity (instance l r) = ⊥
IsQuantity (resumption l a b c d) = ⊥
IsQuantity (suspension a b) = ⊥

is_variable : {Γ : Scope} {t : Term} → OutOfScope Γ t → IsVariable t
is_variable (unbound e) = tt

is_quantity : {S : Setting} {t : Term} → OutOfSet S t → IsQuantity t
is_quantity (not_held e) = tt
is_quantity (no_signature e) = tt

-- no number is two
apart : {A : Type 0} {n : FaultNumber} (a b : FaultNumber) → (number_of a ≡ number_of b → ⊥) → n ≡ a → n ≡ b → A
apart a b d e f = absurd (d (ap number_of (sym e ∙ f)))

module _ (S : Setting) (Γ : Scope) (t : Term) where
  why_scope : (q : Verdict) (n : FaultNumber) → n ≡ OfScope → OutOfScope Γ t → (OutOfSet S t → ⊥) → ((j : Judged) → q ≡ Ok j → ⊥) → Why S Γ t q n
  why_scope q n e o s k =
      record {
        scope = (λ z. o, λ z. e);
        quantity = (λ z. apart OfScope Quantity (λ x. omega arith) e z, λ z. absurd (s z));
        yield_type = (λ z. apart OfScope YieldType (λ x. omega arith) e z, λ z. absurd (k z.0 z.1));
        otherwise = λ z y x. absurd (z o);
      }

  why_quantity : (q : Verdict) (n : FaultNumber) → n ≡ Quantity → (OutOfScope Γ t → ⊥) → OutOfSet S t → ((j : Judged) → q ≡ Ok j → ⊥) → Why S Γ t q n
  why_quantity q n e o s k =
      record {
        scope = (λ z. apart OfScope Quantity (λ x. omega arith) z e, λ z. absurd (o z));
        quantity = (λ z. s, λ z. e);
        yield_type = (λ z. apart Quantity YieldType (λ x. omega arith) e z, λ z. absurd (k z.0 z.1));
        otherwise = λ z y x. absurd (y s);
      }

  why_fit :
      (i : ℕ) (v q : Verdict) → (OutOfScope Γ t → ⊥) → (OutOfSet S t → ⊥) → Fit i v q → (f : Fault) → v ≡ Err f →
      (f.place ≡ i) × Why S Γ t q f.number
  why_fit i v q o s h f e =
      let r = h.from f e in (
        r.0,
        ⊎_elim
            (λ x.
            record {
              scope = (λ z. apart OfScope Types (λ x. omega arith) z x.0, λ z. absurd (o z));
              quantity = (λ z. apart Quantity Types (λ x. omega arith) z x.0, λ z. absurd (s z));
              yield_type = (λ z. apart Types YieldType (λ x. omega arith) x.0 z, λ z. absurd (x.1 z.0 z.1));
              otherwise = λ z y w. x.0;
            })
            (λ x.
            record {
              scope = (λ z. apart OfScope YieldType (λ x. omega arith) z x.0, λ z. absurd (o z));
              quantity = (λ z. apart Quantity YieldType (λ x. omega arith) z x.0, λ z. absurd (s z));
              yield_type = (λ z. x.1, λ z. x.0);
              otherwise = λ z y w. absurd (w x.1);
            })
            r.1,
      )

module _ (S : Setting) (rows : List ℕ) (Γ : List Variable) (i : ℕ) where
  why_variable :
      (x : ℕ) (o : Option ℕ) → look_up Γ x ≡ o → (f : Fault) → variable_rule i o ≡ Err f →
      (f.place ≡ i) × Why S (scope_of Γ) (variable x) (variable_rule i o) f.number
  why_variable x None h f e = (
    place_of OfScope i f e,
    why_scope S (scope_of Γ) (variable x) _ _ (number_refused OfScope i f e) (unbound (look_same Γ x ∙ h)) is_quantity (not_accepted OfScope i),
  )
  why_variable x (Some T) h f e = not_refused _ f e

  why_atom :
      (k p : ℕ) (b : Bool) → (ltb k S.set.bases && S.set.holds k p) ≡ b → (f : Fault) →
      cond b (accepted (k + 2) 1) (refused Quantity i) ≡ Err f →
      (f.place ≡ i) × Why S (scope_of Γ) (atom k p) (cond b (accepted (k + 2) 1) (refused Quantity i)) f.number
  why_atom k p true h f e = not_refused _ f e
  why_atom k p false h f e = (
    place_of Quantity i f e,
    why_quantity S (scope_of Γ) (atom k p) _ _ (number_refused Quantity i f e) is_variable
        (not_held λ l m.
        let n = lt-ltb k S.set.bases l in
        let w : true ≡ false = sym (ap (λ c. c && S.set.holds k p) n ∙ m) ∙ h in
        let z : ◌≡◌ {A = ℕ} 0 1 = cc in omega arith)
        (not_accepted Quantity i),
  )

  why_operation :
      (o : ℕ) (a b : Term) (j k : Judged) (s : Option Signature) → S.set.signature o ≡ s → (f : Fault) → operation_rule i s j k ≡ Err f →
      (f.place ≡ i) × Why S (scope_of Γ) (operation o a b) (operation_rule i s (quiet j) (quiet k)) f.number
  why_operation o a b j k None h f e = (
    place_of Quantity i f e,
    why_quantity S (scope_of Γ) (operation o a b) _ _ (number_refused Quantity i f e) is_variable (no_signature h) (not_accepted Quantity i),
  )
  why_operation o a b j k (Some s) h f e =
      why_fit S (scope_of Γ) (operation o a b) i _ _ is_variable
      (λ x. signed x)
      (fit_operation rows i s j k) f e
    where
      signed : OutOfSet S (operation o a b) → ⊥
      signed (no_signature g) = let w = sym g ∙ h in let z : ◌≡◌ {A = ℕ} 0 1 = cc in omega arith

  pub why :
      (t : Term) (j₁ j₂ j₃ j₄ : Judged) (f : Fault) → ruled S.set rows Γ i t j₁ j₂ j₃ j₄ ≡ Err f →
      (f.place ≡ i) × Why S (scope_of Γ) t (ruled S.set rows Γ i t (quiet j₁) (quiet j₂) (quiet j₃) (quiet j₄)) f.number
  why unit j₁ j₂ j₃ j₄ f e = not_refused _ f e
  why (variable x) j₁ j₂ j₃ j₄ f e = why_variable x (look_up Γ x) refl f e
  why (abstraction x r b) j₁ j₂ j₃ j₄ f e = why_fit S _ (abstraction x r b) i _ _ is_variable is_quantity (fit_abstraction rows i r j₁) f e
  why (coroutine x r b) j₁ j₂ j₃ j₄ f e = why_fit S _ (coroutine x r b) i _ _ is_variable is_quantity (fit_coroutine_rule rows i r j₁) f e
  why (application g a) j₁ j₂ j₃ j₄ f e = why_fit S _ (application g a) i _ _ is_variable is_quantity (fit_application rows i j₁ j₂) f e
  why (yield a) j₁ j₂ j₃ j₄ f e = why_fit S _ (yield a) i _ _ is_variable is_quantity (fit_yield rows i j₁) f e
  why (start r g a) j₁ j₂ j₃ j₄ f e = why_fit S _ (start r g a) i _ _ is_variable is_quantity (fit_start rows i r j₁ j₂) f e
  why (resume a b c d) j₁ j₂ j₃ j₄ f e =
      why_fit S _ (resume a b c d) i _ _ is_variable is_quantity (fit_resume rows i j₁ j₂ j₃ j₄) f e
  why (snapshot a) j₁ j₂ j₃ j₄ f e = why_fit S _ (snapshot a) i _ _ is_variable is_quantity (fit_snapshot rows i j₁) f e
  why (fix a) j₁ j₂ j₃ j₄ f e = why_fit S _ (fix a) i _ _ is_variable is_quantity (fit_fix rows i j₁) f e
  why (atom k p) j₁ j₂ j₃ j₄ f e = why_atom k p (ltb k S.set.bases && S.set.holds k p) refl f e
  why (operation o a b) j₁ j₂ j₃ j₄ f e = why_operation o a b j₁ j₂ (S.set.signature o) refl f e
  why (instance l r) j₁ j₂ j₃ j₄ f e = why_fit S _ (instance l r) i _ _ is_variable is_quantity (fit_types i) f e
  why (resumption l a b c d) j₁ j₂ j₃ j₄ f e = why_fit S _ (resumption l a b c d) i _ _ is_variable is_quantity (fit_types i) f e
  why (suspension a b) j₁ j₂ j₃ j₄ f e = why_fit S _ (suspension a b) i _ _ is_variable is_quantity (fit_types i) f e
