-- A term with variables for parts is judged by its rule, with the types of the parts and yield type ⊥.
use Rattle.std.proofs.Common.{◌≡◌, ℕ, suc, ◌+◌, cond, eqb, ◌↔◌, List, [], ◌∷◌, get_or, Some, Ok, sym, refl, ap, ◌∙◌, subst, ⊎_elim, arith}
use Rattle.std.proofs.lemmas.Bool.{eq-eqb, ne_eqb}
use Rattle.quantities.specs.Meaning.{Meaning}
use Rattle.rules.specs.declared.model.Judged.{Judged}
use Rattle.rules.specs.declared.model.Variable.{Variable}
use Rattle.rules.specs.Rules.{Verdict, look, variable_rule, abstraction_rule, coroutine_rule}
use Rattle.calculus.specs.Terms.{Term, unit, variable, abstraction, coroutine, application, yield, start, resume, snapshot, fix, atom, operation, instance, resumption, suspension, Program}
use Rattle.calculus.specs.Parts.{parts, with_parts}
use Rattle.calculus.specs.Rows.{Setting, WellFormed}
use Rattle.calculus.specs.Typing.{Scope, bind, InScope, Typed}
use Rattle.judging.specs.Verdicts.{after, verdict}
use Rattle.judging.specs.Answers.{scope_of}
use Rattle.judging.specs.Places.{HaveTypes, spare, variables, bind_all, TypedWithoutYields}
use Rattle.judging.proofs.Tables.{Means}
use Rattle.judging.proofs.Typings.{decided, has_typing, no_typing}
use Rattle.judging.proofs.Ruled.{ruled, nothing, HaveJudgements}
use Rattle.judging.proofs.Fits.{quiet}
use Rattle.judging.proofs.Scopes.{in_bind, type_is_row}

abbrev pub types_of : List Judged → List ℕ
types_of [] = []
types_of (j ∷ js) = j.row ∷ types_of js

abbrev bound_all : ℕ → List ℕ → List Variable → List Variable
bound_all n [] Γ = Γ
bound_all n (T ∷ Ts) Γ = record { name = n; row = T } ∷ bound_all (suc n) Ts Γ

bound_all_same : (Ts : List ℕ) (n : ℕ) (Γ : List Variable) → scope_of (bound_all n Ts Γ) ≡ bind_all n Ts (scope_of Γ)
bound_all_same [] n Γ = refl
bound_all_same (T ∷ Ts) n Γ = ap (bind n T) (bound_all_same Ts (suc n) Γ)

-- the name after a binder's is found behind it
behind : (x A T : ℕ) (Γ : List Variable) →
    look (record { name = x; row = A } ∷ record { name = suc x; row = T } ∷ Γ) (suc x) ≡ Some T
behind x A T Γ =
    ap (λ b. cond b (Some A) (cond (eqb (suc x) (suc x)) (Some T) (look Γ (suc x)))) (ne_eqb (suc x) x (λ e. omega arith))
    ∙ ap (λ b. cond b (Some T) (look Γ (suc x))) (eq-eqb (suc x) (suc x) refl)

-- the rule with yield type ⊥ for each part
abbrev pub quietly : Meaning → List ℕ → List Variable → ℕ → Term → List Judged → Verdict
quietly m rows Γ i t js =
    ruled m rows Γ i t (quiet (get_or js 0 nothing)) (quiet (get_or js 1 nothing)) (quiet (get_or js 2 nothing)) (quiet (get_or js 3 nothing))

-- the term with variables for parts
abbrev replaced : Term → List Judged → Term
replaced t js = with_parts t (variables (spare t) (types_of js))

-- it is a program term, and its verdict is the rule's
record Replaced (m : Meaning) (rows : List ℕ) (Γ : List Variable) (i : ℕ) (t : Term) (js : List Judged) : Type 0 where
  program : Program (replaced t js)
  same : verdict m rows (bound_all (spare t) (types_of js) Γ) i (replaced t js) ≡ quietly m rows Γ i t js

module _ (m : Meaning) (rows : List ℕ) (Δ Γ : List Variable) (n i : ℕ) where
  by_variables : (t : Term) → Program t → (js : List Judged) → HaveJudgements m rows Δ n (parts t) js → Replaced m rows Γ i t js
  by_variables unit p [] h = record { program = tt; same = refl }
  by_variables unit p (j ∷ js) h = absurd h
  by_variables (variable x) p [] h = record { program = tt; same = refl }
  by_variables (variable x) p (j ∷ js) h = absurd h
  by_variables (abstraction x r b) p [] h = absurd h
  by_variables (abstraction x r b) p (j ∷ []) h =
      record { program = tt; same = ap (λ o. after (variable_rule (i + 1) o) λ k. abstraction_rule rows i r k) (behind x _ j.row Γ) }
  by_variables (abstraction x r b) p (j ∷ k ∷ js) h = absurd h.1
  by_variables (coroutine x r b) p [] h = absurd h
  by_variables (coroutine x r b) p (j ∷ []) h =
      record { program = tt; same = ap (λ o. after (variable_rule (i + 1) o) λ k. coroutine_rule rows i r k) (behind x _ j.row Γ) }
  by_variables (coroutine x r b) p (j ∷ k ∷ js) h = absurd h.1
  by_variables (application f a) p [] h = absurd h
  by_variables (application f a) p (j ∷ []) h = absurd h.1
  by_variables (application f a) p (j ∷ k ∷ []) h = record { program = (tt, tt); same = refl }
  by_variables (application f a) p (j ∷ k ∷ l ∷ js) h = absurd h.1.1
  by_variables (yield a) p [] h = absurd h
  by_variables (yield a) p (j ∷ []) h = record { program = tt; same = refl }
  by_variables (yield a) p (j ∷ k ∷ js) h = absurd h.1
  by_variables (start r f a) p [] h = absurd h
  by_variables (start r f a) p (j ∷ []) h = absurd h.1
  by_variables (start r f a) p (j ∷ k ∷ []) h = record { program = (tt, tt); same = refl }
  by_variables (start r f a) p (j ∷ k ∷ l ∷ js) h = absurd h.1.1
  by_variables (resume a b c d) p [] h = absurd h
  by_variables (resume a b c d) p (j ∷ []) h = absurd h.1
  by_variables (resume a b c d) p (j ∷ k ∷ []) h = absurd h.1.1
  by_variables (resume a b c d) p (j ∷ k ∷ l ∷ []) h = absurd h.1.1.1
  by_variables (resume a b c d) p (j ∷ k ∷ l ∷ o ∷ []) h = record { program = (tt, tt, tt, tt); same = refl }
  by_variables (resume a b c d) p (j ∷ k ∷ l ∷ o ∷ q ∷ js) h = absurd h.1.1.1.1
  by_variables (snapshot a) p [] h = absurd h
  by_variables (snapshot a) p (j ∷ []) h = record { program = tt; same = refl }
  by_variables (snapshot a) p (j ∷ k ∷ js) h = absurd h.1
  by_variables (fix a) p [] h = absurd h
  by_variables (fix a) p (j ∷ []) h = record { program = tt; same = refl }
  by_variables (fix a) p (j ∷ k ∷ js) h = absurd h.1
  by_variables (atom k q) p [] h = record { program = tt; same = refl }
  by_variables (atom k q) p (j ∷ js) h = absurd h
  by_variables (operation o a b) p [] h = absurd h
  by_variables (operation o a b) p (j ∷ []) h = absurd h.1
  by_variables (operation o a b) p (j ∷ k ∷ []) h = record { program = (tt, tt); same = refl }
  by_variables (operation o a b) p (j ∷ k ∷ l ∷ js) h = absurd h.1.1
  by_variables (instance l r) p js h = absurd p
  by_variables (resumption l a b c d) p js h = absurd p
  by_variables (suspension a b) p js h = absurd p

module _ (S : Setting) (L : WellFormed S) (rows : List ℕ) (means : Means rows S.table) where
  -- the parts' types are rows, so the variables are in scope
  pub all_in_scope :
      (Δ : Scope) → InScope S Δ → (Γ : Scope) → InScope S Γ → (n : ℕ) (ts : List Term) (Ts : List ℕ) → HaveTypes S Δ ts Ts →
      InScope S (bind_all n Ts Γ)
  all_in_scope Δ d Γ g n [] [] h = g
  all_in_scope Δ d Γ g n [] (T ∷ Ts) h = absurd h
  all_in_scope Δ d Γ g n (t ∷ ts) [] h = absurd h
  all_in_scope Δ d Γ g n (t ∷ ts) (T ∷ Ts) h =
      in_bind S (bind_all (suc n) Ts Γ) n T (type_is_row S L d h.0.1) (all_in_scope Δ d Γ g (suc n) ts Ts h.1)

  pub without_yields :
      (Δ Γ : List Variable) (n i : ℕ) (t : Term) → Program t → (js : List Judged) → HaveJudgements S.set rows Δ n (parts t) js →
      InScope S (bind_all (spare t) (types_of js) (scope_of Γ)) →
      ((j : Judged) × (quietly S.set rows Γ i t js ≡ Ok j)) ↔ TypedWithoutYields S (scope_of Γ) t (types_of js)
  without_yields Δ Γ n i t p js h g =
      let r = by_variables S.set rows Δ Γ n i t p js h in
      let e = bound_all_same (types_of js) (spare t) Γ in
      let k = subst (InScope S) (sym e) g in (
        λ x. (
          x.0.row,
          x.0.yields,
          subst (λ (Θ : Scope). Typed S [] Θ (replaced t js) x.0.row x.0.yields) e
              (has_typing S L rows means (replaced t js) r.program (bound_all (spare t) (types_of js) Γ) k i x.0 (r.same ∙ x.1)),
        ),
        λ x.
            ⊎_elim (λ y. (y.0, sym r.same ∙ y.1))
            (λ y.
            absurd
            (no_typing S L rows means (replaced t js) r.program (bound_all (spare t) (types_of js) Γ) k i y.0 y.1 x.0 x.1
            (subst (λ (Θ : Scope). Typed S [] Θ (replaced t js) x.0 x.1) (sym e) x.2)))
            (decided (verdict S.set rows (bound_all (spare t) (types_of js) Γ) i (replaced t js))),
      )
