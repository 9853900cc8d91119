-- Where a refusal comes from: the term inside that its own rule refuses.
use Rattle.std.proofs.Common.{◌≡◌, ℕ, ◌+◌, ◌<◌, ◌≤◌, List, [], ◌∷◌, ◌++◌, Ok, Err, sym, refl, ap, ◌∙◌, subst, ⊎_elim, arith}
use Rattle.std.specs.List.{AllByRecursion}
use Rattle.faults.specs.declared.Fault.{Fault}
use Rattle.rules.specs.declared.model.Judged.{Judged}
use Rattle.rules.specs.declared.model.Variable.{Variable}
use Rattle.rules.specs.Rules.{Verdict}
use Rattle.calculus.specs.Terms.{Term, Program}
use Rattle.calculus.specs.Parts.{parts, size, sizes}
use Rattle.calculus.specs.Rows.{Setting, WellFormed}
use Rattle.calculus.specs.Typing.{Scope, InScope, Typed}
use Rattle.judging.specs.Verdicts.{after, verdict}
use Rattle.judging.specs.Answers.{scope_of, HasType}
use Rattle.judging.specs.Places.{inner, Inside, Untyped}
use Rattle.judging.specs.Places.Inside.{here, part}
use Rattle.judging.proofs.Tables.{Means}
use Rattle.judging.proofs.Typings.{decided, has_typing, no_typing}
use Rattle.judging.proofs.Ruled.{ruled_by, inner_scope, judges, HaveJudgements, by_rule, where_refused, by_parts, all_at, size_is, program_parts}
use Rattle.judging.proofs.Reasons.{why}
use Rattle.judging.proofs.Scopes.{inner_in_scope, inner_same}

-- the words of terms that stand one after another
reach : (before : List Term) (q : Term) (later : List Term) → sizes before + size q ≤ sizes (before ++ (q ∷ later))
reach [] q later = omega arith
reach (t ∷ before) q later = let r = reach before q later in omega arith

module _ (S : Setting) (rows : List ℕ) where
  ruled_place : (Γ : List Variable) (i : ℕ) (t : Term) (js : List Judged) (f : Fault) → ruled_by S.set rows Γ i t js ≡ Err f → f.place ≡ i
  ruled_place Γ i t js f e = (why S rows Γ i t _ _ _ _ f e).0

  -- a refusal's place is among the words of the term
  abbrev Among : Term → Type 0
  Among t =
      (Γ : List Variable) (i : ℕ) (f : Fault) → verdict S.set rows Γ i t ≡ Err f → (i ≤ f.place) × (f.place < i + size t)

  among_step : (t : Term) → AllByRecursion Among (parts t) → Among t
  among_step t a Γ i f h =
      let n = size_is t in
      ⊎_elim
      (λ x.
      let r =
      all_at Among x.before x.term x.later (subst (AllByRecursion Among) x.split a) (inner_scope rows t Γ) (i + 1 + sizes x.before) f
      x.refusal
      in
      let q = reach x.before x.term x.later in
      let l = ap sizes x.split in
      (omega arith, omega arith))
      (λ x. let z = ruled_place Γ i t x.judgements f x.refusal in (omega arith, omega arith))
      (where_refused S.set rows (inner_scope rows t Γ) (parts t) (i + 1) (ruled_by S.set rows Γ i t) f
      (sym (by_rule S.set rows t Γ i) ∙ h))

  among : (t : Term) → Among t
  among = by_parts Among among_step

  -- of terms that stand one after another the first refusal counts
  first_counts :
      (Γ : List Variable) (before : List Term) (q : Term) (later : List Term) (i : ℕ) (k : List Judged → Verdict) (g : Fault) →
      verdict S.set rows Γ (i + sizes before) q ≡ Err g →
      (f : Fault) × (judges S.set rows Γ i (before ++ (q ∷ later)) k ≡ Err f) × (f.place ≤ g.place)
  first_counts Γ [] q later i k g h =
      let z : i ≡ i + 0 = omega arith in (
        g,
        ap (λ v. after v (λ j. judges S.set rows Γ (i + size q) later (λ js. k (j ∷ js)))) (ap (λ n. verdict S.set rows Γ n q) z ∙ h),
        omega arith,
      )
  first_counts Γ (t ∷ before) q later i k g h =
      let l : i + size t + sizes before ≡ i + (size t + sizes before) = omega arith in
      let s = among q Γ (i + (size t + sizes before)) g h in
      by (verdict S.set rows Γ i t) refl
      (λ j. first_counts Γ before q later (i + size t) (λ js. k (j ∷ js)) g (ap (λ n. verdict S.set rows Γ n q) l ∙ h)) (omega arith)
    where
      by : (v : Verdict) → verdict S.set rows Γ i t ≡ v →
          ((j : Judged) →
          (f : Fault) × (judges S.set rows Γ (i + size t) (before ++ (q ∷ later)) (λ js. k (j ∷ js)) ≡ Err f) × (f.place ≤ g.place)) →
          i + size t ≤ g.place →
          (f : Fault) × (after v (λ j. judges S.set rows Γ (i + size t) (before ++ (q ∷ later)) (λ js. k (j ∷ js))) ≡ Err f) ×
          (f.place ≤ g.place)
      by (Ok j) w r b = r j
      by (Err f) w r b = let s = among t Γ i f w in (f, refl, omega arith)

-- the term that its own rule refuses
pub record Source (S : Setting) (rows : List ℕ) (Γ : List Variable) (i : ℕ) (t : Term) (f : Fault) : Type 0 where
  pub scope : List Variable
  pub in_scope : InScope S (scope_of scope)
  pub term : Term
  pub program : Program term
  pub stands : Inside S (scope_of Γ) i t (scope_of scope) f.place term
  pub refusal : verdict S.set rows scope f.place term ≡ Err f
  pub judgements : List Judged
  pub have : HaveJudgements S.set rows (inner_scope rows term scope) (f.place + 1) (parts term) judgements
  pub says : ruled_by S.set rows scope f.place term judgements ≡ Err f

module _ (S : Setting) (L : WellFormed S) (rows : List ℕ) (means : Means rows S.table) where
  parts_in_scope : (t : Term) (Γ : List Variable) → InScope S (scope_of Γ) → InScope S (scope_of (inner_scope rows t Γ))
  parts_in_scope t Γ g = subst (InScope S) (sym (inner_same S rows means t Γ)) (inner_in_scope S L t (scope_of Γ) g)

  abbrev Sourced : Term → Type 0
  Sourced t =
      Program t → (Γ : List Variable) → InScope S (scope_of Γ) → (i : ℕ) (f : Fault) → verdict S.set rows Γ i t ≡ Err f →
      Source S rows Γ i t f

  sourced_step : (t : Term) → AllByRecursion Sourced (parts t) → Sourced t
  sourced_step t a p Γ g i f h =
      ⊎_elim
      (λ x.
      let r =
      all_at Sourced x.before x.term x.later (subst (AllByRecursion Sourced) x.split a)
      (all_at Program x.before x.term x.later (subst (AllByRecursion Program) x.split (program_parts t p))) (inner_scope rows t Γ)
      (parts_in_scope t Γ g) (i + 1 + sizes x.before) f x.refusal
      in
      record {
        scope = r.scope;
        in_scope = r.in_scope;
        term = r.term;
        program = r.program;
        stands =
            part x.before x.term x.later x.split
            (subst (λ (Θ : Scope). Inside S Θ (i + 1 + sizes x.before) x.term (scope_of r.scope) f.place r.term)
            (inner_same S rows means t Γ) r.stands);
        refusal = r.refusal;
        judgements = r.judgements;
        have = r.have;
        says = r.says;
      })
      (λ x.
      let z = ruled_place S rows Γ i t x.judgements f x.refusal in
      record {
        scope = Γ;
        in_scope = g;
        term = t;
        program = p;
        stands = subst (λ (n : ℕ). Inside S (scope_of Γ) i t (scope_of Γ) n t) (sym z) here;
        refusal = ap (λ n. verdict S.set rows Γ n t) z ∙ h;
        judgements = x.judgements;
        have =
            subst (λ (n : ℕ). HaveJudgements S.set rows (inner_scope rows t Γ) (n + 1) (parts t) x.judgements) (sym z) x.have;
        says = ap (λ n. ruled_by S.set rows Γ n t x.judgements) z ∙ x.refusal;
      })
      (where_refused S.set rows (inner_scope rows t Γ) (parts t) (i + 1) (ruled_by S.set rows Γ i t) f
      (sym (by_rule S.set rows t Γ i) ∙ h))

  pub sourced : (t : Term) → Sourced t
  sourced = by_parts Sourced sourced_step

  -- a term without a type whose parts all have one is refused at its own place
  refused_here :
      (t : Term) → Program t → (Γ : List Variable) → InScope S (scope_of Γ) → (i : ℕ) → Untyped S (scope_of Γ) t →
      (f : Fault) × (verdict S.set rows Γ i t ≡ Err f) × (f.place ≤ i)
  refused_here t p Γ g i w =
      ⊎_elim (λ x. absurd (w.lacks (x.0.row, x.0.yields, has_typing S L rows means t p Γ g i x.0 x.1)))
      (λ x. (x.0, x.1, low x.0 x.1)) (decided (verdict S.set rows Γ i t))
    where
      low : (f : Fault) → verdict S.set rows Γ i t ≡ Err f → f.place ≤ i
      low f h =
          ⊎_elim
          (λ x.
          let q = all_at Program x.before x.term x.later (subst (AllByRecursion Program) x.split (program_parts t p)) in
          let d =
          all_at (HasType S (inner S t (scope_of Γ))) x.before x.term x.later
          (subst (AllByRecursion (HasType S (inner S t (scope_of Γ)))) x.split w.parts_have)
          in
          absurd
          (no_typing S L rows means x.term q (inner_scope rows t Γ) (parts_in_scope t Γ g) (i + 1 + sizes x.before) f x.refusal
          d.0 d.1
          (subst (λ (Θ : Scope). Typed S [] Θ x.term d.0 d.1) (sym (inner_same S rows means t Γ)) d.2)))
          (λ x. let z = ruled_place S rows Γ i t x.judgements f x.refusal in omega arith)
          (where_refused S.set rows (inner_scope rows t Γ) (parts t) (i + 1) (ruled_by S.set rows Γ i t) f
          (sym (by_rule S.set rows t Γ i) ∙ h))

  -- with such a term inside, the whole is refused, at that place or a smaller one
  pub smallest :
      {Θ Δ : Scope} {i p : ℕ} {t u : Term} → Inside S Θ i t Δ p u → Program t → (Γ : List Variable) → Θ ≡ scope_of Γ →
      InScope S (scope_of Γ) → Untyped S Δ u → (f : Fault) × (verdict S.set rows Γ i t ≡ Err f) × (f.place ≤ p)
  smallest (here {i = i} {t = t}) P Γ e g w = refused_here t P Γ g i (subst (λ (Θ : Scope). Untyped S Θ t) e w)
  smallest (part {i = i} {t = t} before q later s d) P Γ e g w =
      let r =
      smallest d (all_at Program before q later (subst (AllByRecursion Program) s (program_parts t P))) (inner_scope rows t Γ)
      (ap (inner S t) e ∙ sym (inner_same S rows means t Γ)) (parts_in_scope t Γ g) w
      in
      let o = first_counts S rows (inner_scope rows t Γ) before q later (i + 1) (ruled_by S.set rows Γ i t) r.0 r.1 in
      let x = r.2 in
      let y = o.2 in (
        o.0,
        by_rule S.set rows t Γ i
            ∙ ap (λ us. judges S.set rows (inner_scope rows t Γ) (i + 1) us (ruled_by S.set rows Γ i t)) s
            ∙ o.1,
        omega arith,
      )
