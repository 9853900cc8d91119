-- What a verdict says of the types of a term.
use Rattle.std.proofs.Common.{◌≡◌, ℕ, ◌⊎◌, List, [], Some, None, Ok, Err, sym, refl, ap, ◌∙◌, subst, ap₂, inl, inr, ⊎_elim, arith}
use Rattle.faults.specs.declared.Fault.{Fault}
use Rattle.rules.specs.declared.model.Judged.{Judged}
use Rattle.rules.specs.declared.model.Variable.{Variable}
use Rattle.rules.specs.Rules.{Verdict, accepted}
use Rattle.calculus.specs.Terms.{Term, Program}
use Rattle.calculus.specs.Rows.{Setting, WellFormed}
use Rattle.calculus.specs.Typing.{InScope, Reads, as_is, raised, Typed}
use Rattle.calculus.specs.Judgement.{Judgement, judged}
use Rattle.calculus.proofs.Checking.{checking}
use Rattle.programs.specs.Tables.{table_words}
use Rattle.judging.specs.Verdicts.{verdict}
use Rattle.judging.specs.Answers.{scope_of, judgement_of, answer_of, Least}
use Rattle.judging.specs.Statements.{VerdictsAreTypings}
use Rattle.judging.proofs.Tables.{Means, written}
use Rattle.judging.proofs.Same.{same}

pub none_in_scope : (S : Setting) → InScope S []
none_in_scope S = record { is_row = λ n T e. let z : ◌≡◌ {A = ℕ} 0 1 = cc in absurd (omega arith) }

-- a verdict is one of two
pub decided : (v : Verdict) → ((j : Judged) × (v ≡ Ok j)) ⊎ ((f : Fault) × (v ≡ Err f))
decided (Ok j) = inl (j, refl)
decided (Err f) = inr (f, refl)

read_both : {S : Setting} {V W : ℕ} → Reads S V W → Reads S W V → V ≡ W
read_both (as_is e) r = e
read_both (raised e y) (as_is f) = sym f
read_both (raised e y) (raised f z) = e ∙ sym f

module _ (S : Setting) (L : WellFormed S) (rows : List ℕ) (means : Means rows S.table) (t : Term) (p : Program t) where
  module _ (Γ : List Variable) (g : InScope S (scope_of Γ)) (i : ℕ) where
    pub has_typing : (j : Judged) → verdict S.set rows Γ i t ≡ Ok j → Typed S [] (scope_of Γ) t j.row j.yields
    has_typing j e =
        (checking S L [] (scope_of Γ) g t j.row j.yields).1
        (j.yields, sym (same S rows means t p Γ i) ∙ ap answer_of e, as_is refl)

    pub other_typings :
        (j : Judged) → verdict S.set rows Γ i t ≡ Ok j → (T Y : ℕ) → Typed S [] (scope_of Γ) t T Y →
        (j.row ≡ T) × Reads S j.yields Y
    other_typings j e T Y d =
        let k = (checking S L [] (scope_of Γ) g t T Y).0 d in
        let z : Some (judgement_of j) ≡ judged T k.0 = sym (ap answer_of e) ∙ same S rows means t p Γ i ∙ k.1 in
        let y : judgement_of j ≡ record { type = T; yields = k.0 } = cc in
        (ap (λ (q : Judgement). q.type) y, subst (λ V. Reads S V Y) (sym (ap (λ (q : Judgement). q.yields) y)) k.2)

    pub no_typing : (f : Fault) → verdict S.set rows Γ i t ≡ Err f → (T Y : ℕ) → Typed S [] (scope_of Γ) t T Y → ⊥
    no_typing f e T Y d =
        let k = (checking S L [] (scope_of Γ) g t T Y).0 d in
        let z : None ≡ judged T k.0 = sym (ap answer_of e) ∙ same S rows means t p Γ i ∙ k.1 in
        let y : ◌≡◌ {A = ℕ} 0 1 = cc in omega arith

  least_of : (i T Y : ℕ) → verdict S.set rows [] i t ≡ accepted T Y → Least S t T Y
  least_of i T Y e =
      record {
        typed = has_typing [] (none_in_scope S) i (record { row = T; yields = Y }) e;
        least = other_typings [] (none_in_scope S) i (record { row = T; yields = Y }) e;
      }

  of_least : (i T Y : ℕ) → Least S t T Y → verdict S.set rows [] i t ≡ accepted T Y
  of_least i T Y h =
      ⊎_elim
      (λ x.
      let o = other_typings [] (none_in_scope S) i x.0 x.1 T Y h.typed in
      let l = h.least x.0.row x.0.yields (has_typing [] (none_in_scope S) i x.0 x.1) in
      x.1 ∙ ap₂ accepted o.0 (read_both o.1 l.1))
      (λ x. absurd (no_typing [] (none_in_scope S) i x.0 x.1 T Y h.typed))
      (decided (verdict S.set rows [] i t))

  refusal_of : (i : ℕ) → ((T Y : ℕ) → Typed S [] [] t T Y → ⊥) → (f : Fault) × (verdict S.set rows [] i t ≡ Err f)
  refusal_of i h =
      ⊎_elim (λ x. absurd (h x.0.row x.0.yields (has_typing [] (none_in_scope S) i x.0 x.1))) (λ x. x)
      (decided (verdict S.set rows [] i t))

pub typings : VerdictsAreTypings
typings S L w i t p =
    let rows = table_words S.table in
    let means = written S.table w in (
      λ T Y. (least_of S L rows means t p i T Y, of_least S L rows means t p i T Y),
      (λ x. no_typing S L rows means t p [] (none_in_scope S) i x.0 x.1, refusal_of S L rows means t p i),
    )
