-- A refusal's place and number, by types.
use Rattle.std.proofs.Common.{◌≡◌, ℕ, ◌+◌, List, [], ◌∷◌, Err, sym, refl, ap, ◌∙◌, subst, arith}
use Rattle.std.specs.List.{AllByRecursion}
use Rattle.faults.specs.declared.Fault.{Fault}
use Rattle.rules.specs.declared.model.Judged.{Judged}
use Rattle.rules.specs.declared.model.Variable.{Variable}
use Rattle.calculus.specs.Terms.{Term, Program}
use Rattle.calculus.specs.Parts.{parts, size}
use Rattle.calculus.specs.Rows.{Setting, WellFormed}
use Rattle.calculus.specs.Typing.{Scope, InScope}
use Rattle.programs.specs.Tables.{table_words}
use Rattle.judging.specs.Verdicts.{verdict}
use Rattle.judging.specs.Answers.{scope_of, HasType}
use Rattle.judging.specs.Places.{inner, HaveTypes, spare, Reason, Located}
use Rattle.judging.specs.Statements.{RefusalsAreLocated}
use Rattle.judging.proofs.Tables.{Means, written}
use Rattle.judging.proofs.Typings.{none_in_scope, has_typing, no_typing}
use Rattle.judging.proofs.Ruled.{inner_scope, HaveJudgements, program_parts}
use Rattle.judging.proofs.Reasons.{why}
use Rattle.judging.proofs.Scopes.{inner_in_scope, inner_same}
use Rattle.judging.proofs.Quiet.{types_of, all_in_scope, without_yields}
use Rattle.judging.proofs.Blame.{Source, sourced, smallest}

-- terms of known types have types
all_typed : (S : Setting) (Γ : Scope) (ts : List Term) (Ts : List ℕ) → HaveTypes S Γ ts Ts → AllByRecursion (HasType S Γ) ts
all_typed S Γ [] [] h = tt
all_typed S Γ [] (T ∷ Ts) h = absurd h
all_typed S Γ (t ∷ ts) [] h = absurd h
all_typed S Γ (t ∷ ts) (T ∷ Ts) h = ((T, h.0.0, h.0.1), all_typed S Γ ts Ts h.1)

module _ (S : Setting) (L : WellFormed S) (rows : List ℕ) (means : Means rows S.table) where
  have_types :
      (Γ : List Variable) → InScope S (scope_of Γ) → (ts : List Term) → AllByRecursion Program ts → (i : ℕ) (js : List Judged) →
      HaveJudgements S.set rows Γ i ts js → HaveTypes S (scope_of Γ) ts (types_of js)
  have_types Γ g [] p i [] h = tt
  have_types Γ g [] p i (j ∷ js) h = absurd h
  have_types Γ g (t ∷ ts) p i [] h = absurd h
  have_types Γ g (t ∷ ts) p i (j ∷ js) h =
      ((j.yields, has_typing S L rows means t p.0 Γ g i j h.0), have_types Γ g ts p.1 (i + size t) js h.1)

  parts_typed :
      (t : Term) → Program t → (Γ : List Variable) → InScope S (scope_of Γ) → (i : ℕ) (js : List Judged) →
      HaveJudgements S.set rows (inner_scope rows t Γ) i (parts t) js → HaveTypes S (inner S t (scope_of Γ)) (parts t) (types_of js)
  parts_typed t p Γ g i js h =
      subst (λ (Θ : Scope). HaveTypes S Θ (parts t) (types_of js)) (inner_same S rows means t Γ)
      (have_types (inner_scope rows t Γ) (subst (InScope S) (sym (inner_same S rows means t Γ)) (inner_in_scope S L t (scope_of Γ) g)) (parts t)
      (program_parts t p) i js h)

  reason_of : (i : ℕ) (t : Term) (f : Fault) (s : Source S rows [] i t f) → Reason S (scope_of s.scope) s.term (types_of s.judgements) f.number
  reason_of i t f s =
      let w = (why S rows s.scope f.place s.term _ _ _ _ f s.says).1 in
      let h = parts_typed s.term s.program s.scope s.in_scope (f.place + 1) s.judgements s.have in
      let q =
      without_yields S L rows means (inner_scope rows s.term s.scope) s.scope (f.place + 1) f.place s.term s.program
      s.judgements s.have
      (all_in_scope S L rows means (inner S s.term (scope_of s.scope)) (inner_in_scope S L s.term (scope_of s.scope) s.in_scope)
      (scope_of s.scope) s.in_scope (spare s.term) (parts s.term) (types_of s.judgements) h)
      in
      record {
        scope = w.scope;
        quantity = w.quantity;
        yield_type = (λ z. q.0 (w.yield_type.0 z), λ z. w.yield_type.1 (q.1 z));
        otherwise = λ a b c. w.otherwise a b (λ x. c (q.0 x));
      }

  located_at : (i : ℕ) (t : Term) → Program t → (f : Fault) → verdict S.set rows [] i t ≡ Err f → Located S i t f
  located_at i t p f h =
      let s = sourced S L rows means t p [] (none_in_scope S) i f h in
      let k = parts_typed s.term s.program s.scope s.in_scope (f.place + 1) s.judgements s.have in
      record {
        scope = scope_of s.scope;
        term = s.term;
        stands = s.stands;
        untyped =
            record {
              lacks = λ x. no_typing S L rows means s.term s.program s.scope s.in_scope f.place f s.refusal x.0 x.1 x.2;
              parts_have = all_typed S (inner S s.term (scope_of s.scope)) (parts s.term) (types_of s.judgements) k;
            };
        smallest = λ Δ n u d w.
            let r = smallest S L rows means d p [] refl (none_in_scope S) w in
            let e = sym h ∙ r.1 in
            let z : f ≡ r.0 = cc in
            let y = ap (λ (x : Fault). x.place) z in
            let x = r.2 in omega arith;
        types = types_of s.judgements;
        have = k;
        reason = reason_of i t f s;
      }

pub located : RefusalsAreLocated
located S L w i t p f h = located_at S L (table_words S.table) (written S.table w) i t p f h
