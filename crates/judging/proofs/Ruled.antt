-- A verdict by the verdicts on the parts and the rule of the kind.
use Rattle.std.proofs.Common.{◌≡◌, ℕ, suc, ◌+◌, ◌⊎◌, List, [], ◌∷◌, ◌++◌, get_or, Ok, Err, refl, ap, ◌∙◌, inl, inr, ⊎_elim, arith}
use Rattle.std.specs.List.{AllByRecursion}
use Rattle.faults.specs.declared.Fault.{Fault}
use Rattle.faults.specs.declared.numbers.FaultNumber.TheVariants.{Types}
use Rattle.quantities.specs.Meaning.{Meaning}
use Rattle.rules.specs.declared.model.Judged.{Judged}
use Rattle.rules.specs.declared.model.Variable.{Variable}
use Rattle.rules.specs.Rules.{Verdict, refused, look, unit_rule, variable_rule, abstraction_rule, coroutine_rule, application_rule, yield_rule, start_rule, resume_rule, snapshot_rule, fix_rule, atom_rule, operation_rule}
use Rattle.calculus.specs.Terms.{Term, unit, variable, abstraction, coroutine, application, yield, start, resume, snapshot, fix, atom, operation, instance, resumption, suspension, Program}
use Rattle.calculus.specs.Parts.{parts, size, sizes}
use Rattle.judging.specs.Verdicts.{after, bound, verdict}

-- the rule of a term's kind, by the judgements of its parts
abbrev pub ruled : Meaning → List ℕ → List Variable → ℕ → Term → Judged → Judged → Judged → Judged → Verdict
ruled m rows Γ i unit j₁ j₂ j₃ j₄ = unit_rule
ruled m rows Γ i (variable x) j₁ j₂ j₃ j₄ = variable_rule i (look Γ x)
ruled m rows Γ i (abstraction x r b) j₁ j₂ j₃ j₄ = abstraction_rule rows i r j₁
ruled m rows Γ i (coroutine x r b) j₁ j₂ j₃ j₄ = coroutine_rule rows i r j₁
ruled m rows Γ i (application f a) j₁ j₂ j₃ j₄ = application_rule rows i j₁ j₂
ruled m rows Γ i (yield a) j₁ j₂ j₃ j₄ = yield_rule i j₁
ruled m rows Γ i (start r f a) j₁ j₂ j₃ j₄ = start_rule rows i r j₁ j₂
ruled m rows Γ i (resume a b c d) j₁ j₂ j₃ j₄ = resume_rule rows i j₁ j₂ j₃ j₄
ruled m rows Γ i (snapshot a) j₁ j₂ j₃ j₄ = snapshot_rule rows i j₁
ruled m rows Γ i (fix a) j₁ j₂ j₃ j₄ = fix_rule rows i j₁
ruled m rows Γ i (atom k p) j₁ j₂ j₃ j₄ = atom_rule m i k p
ruled m rows Γ i (operation o a b) j₁ j₂ j₃ j₄ = operation_rule i (m.signature o) j₁ j₂
ruled m rows Γ i (instance l r) j₁ j₂ j₃ j₄ = refused Types i
ruled m rows Γ i (resumption l a b c d) j₁ j₂ j₃ j₄ = refused Types i
ruled m rows Γ i (suspension a b) j₁ j₂ j₃ j₄ = refused Types i

-- in place of the judgement of a part that is not there
abbrev pub nothing : Judged
nothing = record { row = 0; yields = 1 }

abbrev pub ruled_by : Meaning → List ℕ → List Variable → ℕ → Term → List Judged → Verdict
ruled_by m rows Γ i t js =
    ruled m rows Γ i t (get_or js 0 nothing) (get_or js 1 nothing) (get_or js 2 nothing) (get_or js 3 nothing)

-- the scope of the parts of a term
abbrev pub inner_scope : List ℕ → Term → List Variable → List Variable
inner_scope rows unit Γ = Γ
inner_scope rows (variable x) Γ = Γ
inner_scope rows (abstraction x r b) Γ = bound rows x r Γ
inner_scope rows (coroutine x r b) Γ = bound rows x r Γ
inner_scope rows (application f a) Γ = Γ
inner_scope rows (yield a) Γ = Γ
inner_scope rows (start r f a) Γ = Γ
inner_scope rows (resume a b c d) Γ = Γ
inner_scope rows (snapshot a) Γ = Γ
inner_scope rows (fix a) Γ = Γ
inner_scope rows (atom k p) Γ = Γ
inner_scope rows (operation o a b) Γ = Γ
inner_scope rows (instance l r) Γ = Γ
inner_scope rows (resumption l a b c d) Γ = Γ
inner_scope rows (suspension a b) Γ = Γ

-- the terms that stand from place i on, and then what follows of their judgements
abbrev pub judges : Meaning → List ℕ → List Variable → ℕ → List Term → (List Judged → Verdict) → Verdict
judges m rows Γ i [] k = k []
judges m rows Γ i (t ∷ ts) k = after (verdict m rows Γ i t) λ j. judges m rows Γ (i + size t) ts (λ js. k (j ∷ js))

-- those terms have these judgements
abbrev pub HaveJudgements : Meaning → List ℕ → List Variable → ℕ → List Term → List Judged → Type 0
HaveJudgements m rows Γ i [] [] = Unit {0}
HaveJudgements m rows Γ i [] (j ∷ js) = ⊥
HaveJudgements m rows Γ i (t ∷ ts) [] = ⊥
HaveJudgements m rows Γ i (t ∷ ts) (j ∷ js) = (verdict m rows Γ i t ≡ Ok j) × HaveJudgements m rows Γ (i + size t) ts js

module _ (m : Meaning) (rows : List ℕ) where
  pub by_rule : (t : Term) (Γ : List Variable) (i : ℕ) →
      verdict m rows Γ i t ≡ judges m rows (inner_scope rows t Γ) (i + 1) (parts t) (ruled_by m rows Γ i t)
  by_rule unit Γ i = refl
  by_rule (variable x) Γ i = refl
  by_rule (abstraction x r b) Γ i = refl
  by_rule (coroutine x r b) Γ i = refl
  by_rule (application f a) Γ i = refl
  by_rule (yield a) Γ i = refl
  by_rule (start r f a) Γ i = refl
  by_rule (resume a b c d) Γ i = refl
  by_rule (snapshot a) Γ i = refl
  by_rule (fix a) Γ i = refl
  by_rule (atom k p) Γ i = refl
  by_rule (operation o a b) Γ i = refl
  by_rule (instance l r) Γ i = refl
  by_rule (resumption l a b c d) Γ i = refl
  by_rule (suspension a b) Γ i = refl

  -- the first of the terms that is refused
  pub record FirstRefused (Γ : List Variable) (i : ℕ) (ts : List Term) (f : Fault) : Type 0 where
    pub before : List Term
    pub term : Term
    pub later : List Term
    pub split : ts ≡ before ++ (term ∷ later)
    pub refusal : verdict m rows Γ (i + sizes before) term ≡ Err f

  -- all of them are accepted, and what follows is a refusal
  pub record AllAccepted (Γ : List Variable) (i : ℕ) (ts : List Term) (k : List Judged → Verdict) (f : Fault) : Type 0 where
    pub judgements : List Judged
    pub have : HaveJudgements m rows Γ i ts judgements
    pub refusal : k judgements ≡ Err f

  pub where_refused :
      (Γ : List Variable) (ts : List Term) (i : ℕ) (k : List Judged → Verdict) (f : Fault) → judges m rows Γ i ts k ≡ Err f →
      FirstRefused Γ i ts f ⊎ AllAccepted Γ i ts k f
  where_refused Γ [] i k f h = inr (record { judgements = []; have = tt; refusal = h })
  where_refused Γ (t ∷ ts) i k f h = by (verdict m rows Γ i t) refl h (λ j. where_refused Γ ts (i + size t) (λ js. k (j ∷ js)) f)
    where
      by : (v : Verdict) → verdict m rows Γ i t ≡ v → after v (λ j. judges m rows Γ (i + size t) ts (λ js. k (j ∷ js))) ≡ Err f →
          ((j : Judged) → judges m rows Γ (i + size t) ts (λ js. k (j ∷ js)) ≡ Err f →
          FirstRefused Γ (i + size t) ts f ⊎ AllAccepted Γ (i + size t) ts (λ js. k (j ∷ js)) f) →
          FirstRefused Γ i (t ∷ ts) f ⊎ AllAccepted Γ i (t ∷ ts) k f
      by (Err g) q h r =
          let z : i + 0 ≡ i = omega arith in
          inl (record { before = []; term = t; later = ts; split = refl; refusal = ap (λ n. verdict m rows Γ n t) z ∙ q ∙ h })
      by (Ok j) q h r =
          ⊎_elim
          (λ x.
          let l : i + (size t + sizes x.before) ≡ i + size t + sizes x.before = omega arith in
          inl
          (record {
            before = t ∷ x.before;
            term = x.term;
            later = x.later;
            split = ap (λ us. t ∷ us) x.split;
            refusal = ap (λ n. verdict m rows Γ n x.term) l ∙ x.refusal;
          }))
          (λ x. inr (record { judgements = j ∷ x.judgements; have = (q, x.have); refusal = x.refusal }))
          (r j h)

-- what holds of a term where it holds of its parts holds of every term
pub by_parts : (P : Term → Type 0) → ((t : Term) → AllByRecursion P (parts t) → P t) → (t : Term) → P t
by_parts P h unit = h unit tt
by_parts P h (variable x) = h (variable x) tt
by_parts P h (abstraction x r b) = h (abstraction x r b) (by_parts P h b, tt)
by_parts P h (coroutine x r b) = h (coroutine x r b) (by_parts P h b, tt)
by_parts P h (application f a) = h (application f a) (by_parts P h f, (by_parts P h a, tt))
by_parts P h (yield a) = h (yield a) (by_parts P h a, tt)
by_parts P h (start r f a) = h (start r f a) (by_parts P h f, (by_parts P h a, tt))
by_parts P h (resume a b c d) = h (resume a b c d) (by_parts P h a, (by_parts P h b, (by_parts P h c, (by_parts P h d, tt))))
by_parts P h (snapshot a) = h (snapshot a) (by_parts P h a, tt)
by_parts P h (fix a) = h (fix a) (by_parts P h a, tt)
by_parts P h (atom k p) = h (atom k p) tt
by_parts P h (operation o a b) = h (operation o a b) (by_parts P h a, (by_parts P h b, tt))
by_parts P h (instance l r) = h (instance l r) tt
by_parts P h (resumption l a b c d) = h (resumption l a b c d) (by_parts P h a, (by_parts P h b, (by_parts P h c, (by_parts P h d, tt))))
by_parts P h (suspension a b) = h (suspension a b) (by_parts P h a, (by_parts P h b, tt))

pub all_at : (P : Term → Type 0) (before : List Term) (q : Term) (later : List Term) → AllByRecursion P (before ++ (q ∷ later)) → P q
all_at P [] q later a = a.0
all_at P (t ∷ before) q later a = all_at P before q later a.1

pub size_is : (t : Term) → size t ≡ suc (sizes (parts t))
size_is unit = refl
size_is (variable x) = refl
size_is (abstraction x r b) = omega arith
size_is (coroutine x r b) = omega arith
size_is (application f a) = omega arith
size_is (yield a) = omega arith
size_is (start r f a) = omega arith
size_is (resume a b c d) = omega arith
size_is (snapshot a) = omega arith
size_is (fix a) = omega arith
size_is (atom k p) = refl
size_is (operation o a b) = omega arith
size_is (instance l r) = refl
size_is (resumption l a b c d) = omega arith
size_is (suspension a b) = omega arith

pub program_parts : (t : Term) → Program t → AllByRecursion Program (parts t)
program_parts unit p = tt
program_parts (variable x) p = tt
program_parts (abstraction x r b) p = (p, tt)
program_parts (coroutine x r b) p = (p, tt)
program_parts (application f a) p = (p.0, (p.1, tt))
program_parts (yield a) p = (p, tt)
program_parts (start r f a) p = (p.0, (p.1, tt))
program_parts (resume a b c d) p = (p.0, (p.1, (p.2, (p.3, tt))))
program_parts (snapshot a) p = (p, tt)
program_parts (fix a) p = (p, tt)
program_parts (atom k q) p = tt
program_parts (operation o a b) p = (p.0, (p.1, tt))
program_parts (instance l r) p = absurd p
program_parts (resumption l a b c d) p = absurd p
program_parts (suspension a b) p = absurd p
