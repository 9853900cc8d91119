-- The verdict on a term is the judgement of the calculus.
use Rattle.std.proofs.Common.{◌≡◌, ℕ, suc, ◌+◌, Bool, true, false, cond, ◌&&◌, eqb, ltb, List, [], ◌∷◌, Some, None, Option, sym, refl, ap, ◌∙◌, arith}
use Rattle.faults.specs.declared.numbers.FaultNumber.TheVariants.{Scope as OfScope, Quantity, Types, YieldType}
use Rattle.quantities.specs.declared.Signature.{Signature}
use Rattle.rules.specs.declared.model.Judged.{Judged}
use Rattle.rules.specs.declared.model.Variable.{Variable}
use Rattle.rules.specs.declared.model.Shape.{Shape}
use Rattle.rules.specs.declared.model.Shape.TheVariants.{UnitRow, BottomRow, BaseRow, FunctionRow, CoroutineRow, InstanceRow, NoRow}
use Rattle.rules.specs.Table.{shape_at, on_function, on_coroutine, on_instance, argument_of}
use Rattle.rules.specs.Rules.{Verdict, accepted, refused, may_read, joining, look as look_up, variable_rule, applied, start_rule, resume_rule, operation_rule}
use Rattle.calculus.specs.Lists.{at}
use Rattle.calculus.specs.Terms.{Term, unit, variable, abstraction, coroutine, application, yield, start, resume, snapshot, fix, atom, operation, instance, resumption, suspension, Program}
use Rattle.calculus.specs.Parts.{size}
use Rattle.calculus.specs.Rows.{Row, Setting}
use Rattle.calculus.specs.Typing.{bind, look}
use Rattle.calculus.specs.Judgement.{Judgement, judged, and_then, only_if, as_function, as_coroutine, as_instance, coroutine_at, instance_at, reads, join, applying, handled, judge}
use Rattle.judging.specs.Verdicts.{after, verdict}
use Rattle.judging.specs.Answers.{scope_of, judgement_of, answer_of}
use Rattle.judging.proofs.Tables.{row_of, Means}
use Rattle.judging.proofs.Steps.{no_answer, then_both, no_good, test, two_tests, left₃, associate, on_function_same, on_coroutine_same, on_instance_same}
use Rattle.judging.proofs.Handlers.{handlers}

joining_same : (i T V W : ℕ) → answer_of (joining i T V W) ≡ and_then (join V W) (λ Y. judged T Y)
joining_same i T V W = by (may_read V W) (may_read W V)
  where
    by : (x y : Bool) →
        answer_of (cond x (accepted T W) (cond y (accepted T V) (refused YieldType i)))
        ≡ and_then (cond x (Some W) (only_if y (Some V))) (λ Y. judged T Y)
    by true y = refl
    by false true = refl
    by false false = no_answer YieldType i

pub look_same : (Γ : List Variable) (x : ℕ) → look (scope_of Γ) x ≡ look_up Γ x
look_same [] x = refl
look_same (b ∷ Γ) x = ap (cond (eqb x b.name) (Some b.row)) (look_same Γ x)

variable_same : (i : ℕ) (o : Option ℕ) → answer_of (variable_rule i o) ≡ and_then o (λ T. judged T 1)
variable_same i None = no_answer OfScope i
variable_same i (Some T) = refl

applied_same : (s : Shape) (i : ℕ) (j k : Judged) →
    answer_of (applied s i j k) ≡ and_then (row_of s) (λ ty. applying ty (judgement_of j) (judgement_of k))
applied_same UnitRow i j k = no_answer Types i
applied_same BottomRow i j k = no_answer Types i
applied_same (BaseRow b) i j k = no_answer Types i
applied_same (FunctionRow a b) i j k = test (eqb k.row a) _ _ Types i (joining_same i b j.yields k.yields)
applied_same (CoroutineRow a w b) i j k =
    two_tests (eqb k.row a) (may_read j.yields w && may_read k.yields w) (accepted b w) YieldType Types i
    ∙ ap (λ x. only_if x (judged b w)) (left₃ (eqb k.row a) (may_read j.yields w) (may_read k.yields w))
applied_same (InstanceRow w b) i j k = no_answer Types i
applied_same NoRow i j k = no_answer Types i

-- a binder: its row is looked at after the body here, and before it there
abstraction_same :
    (s : Shape) (i r : ℕ) (V : ℕ → Verdict) (O : ℕ → Option Judgement) → ((a : ℕ) → answer_of (V a) ≡ O a) →
    answer_of (after (V (argument_of s)) λ j.
    on_function s (refused Types i) λ a b.
    cond (eqb j.row b) (cond (eqb j.yields 1) (accepted r 1) (refused YieldType i)) (refused Types i))
    ≡ and_then (and_then (row_of s) as_function) λ p.
    and_then (O p.0) λ j. only_if (eqb j.type p.1 && eqb j.yields 1) (judged r 1)
abstraction_same UnitRow i r V O h = no_good (V 0) _ (λ j. no_answer Types i)
abstraction_same BottomRow i r V O h = no_good (V 0) _ (λ j. no_answer Types i)
abstraction_same (BaseRow k) i r V O h = no_good (V 0) _ (λ j. no_answer Types i)
abstraction_same (FunctionRow a b) i r V O h =
    then_both (V a) (O a) _ _ (h a) (λ j. two_tests (eqb j.row b) (eqb j.yields 1) (accepted r 1) YieldType Types i)
abstraction_same (CoroutineRow a w b) i r V O h = no_good (V a) _ (λ j. no_answer Types i)
abstraction_same (InstanceRow w b) i r V O h = no_good (V 0) _ (λ j. no_answer Types i)
abstraction_same NoRow i r V O h = no_good (V 0) _ (λ j. no_answer Types i)

coroutine_same :
    (s : Shape) (i r : ℕ) (V : ℕ → Verdict) (O : ℕ → Option Judgement) → ((a : ℕ) → answer_of (V a) ≡ O a) →
    answer_of (after (V (argument_of s)) λ j.
    on_coroutine s (refused Types i) λ a w b.
    cond (eqb j.row b) (cond (may_read j.yields w) (accepted r 1) (refused YieldType i)) (refused Types i))
    ≡ and_then (and_then (row_of s) as_coroutine) λ p.
    and_then (O p.0) λ j. only_if (eqb j.type p.2 && reads j.yields p.1) (judged r 1)
coroutine_same UnitRow i r V O h = no_good (V 0) _ (λ j. no_answer Types i)
coroutine_same BottomRow i r V O h = no_good (V 0) _ (λ j. no_answer Types i)
coroutine_same (BaseRow k) i r V O h = no_good (V 0) _ (λ j. no_answer Types i)
coroutine_same (FunctionRow a b) i r V O h = no_good (V a) _ (λ j. no_answer Types i)
coroutine_same (CoroutineRow a w b) i r V O h =
    then_both (V a) (O a) _ _ (h a) (λ j. two_tests (eqb j.row b) (may_read j.yields w) (accepted r 1) YieldType Types i)
coroutine_same (InstanceRow w b) i r V O h = no_good (V 0) _ (λ j. no_answer Types i)
coroutine_same NoRow i r V O h = no_good (V 0) _ (λ j. no_answer Types i)

-- a start: so is its row
start_row :
    (s : Shape) (i : ℕ) (v u : Verdict) (f : Judged → Judged → ℕ → ℕ → Verdict) (g : ℕ × ℕ → Option Judgement) →
    ((w b : ℕ) → answer_of (after v λ j. after u λ k. f j k w b) ≡ g (w, b)) →
    answer_of (after v λ j. after u λ k. on_instance s (refused Types i) (f j k)) ≡ and_then (and_then (row_of s) as_instance) g
start_row UnitRow i v u f g h = no_good v _ (λ j. no_good u _ (λ k. no_answer Types i))
start_row BottomRow i v u f g h = no_good v _ (λ j. no_good u _ (λ k. no_answer Types i))
start_row (BaseRow b) i v u f g h = no_good v _ (λ j. no_good u _ (λ k. no_answer Types i))
start_row (FunctionRow a b) i v u f g h = no_good v _ (λ j. no_good u _ (λ k. no_answer Types i))
start_row (CoroutineRow a w b) i v u f g h = no_good v _ (λ j. no_good u _ (λ k. no_answer Types i))
start_row (InstanceRow w b) i v u f g h = h w b
start_row NoRow i v u f g h = no_good v _ (λ j. no_good u _ (λ k. no_answer Types i))

-- an operation: so is its signature
operation_same :
    (g : Option Signature) (i : ℕ) (v u : Verdict) (o q : Option Judgement) → answer_of v ≡ o → answer_of u ≡ q →
    answer_of (after v λ j. after u λ k. operation_rule i g j k)
    ≡ and_then g λ s.
    and_then o λ j.
    and_then q λ k.
    only_if (eqb j.type (suc (suc s.first)) && eqb k.type (suc (suc s.second)))
    (and_then (join j.yields k.yields) λ Y. judged (suc (suc s.result)) Y)
operation_same None i v u o q e f = no_good v _ (λ j. no_good u _ (λ k. no_answer Quantity i))
operation_same (Some s) i v u o q e f =
    let a : s.first + 2 ≡ suc (suc s.first) = omega arith in
    let b : s.second + 2 ≡ suc (suc s.second) = omega arith in
    let c : s.result + 2 ≡ suc (suc s.result) = omega arith in
    then_both v o _ _ e λ j.
    then_both u q _ _ f λ k.
    rw (sym a, sym b, sym c)
    (test (eqb j.row (s.first + 2) && eqb k.row (s.second + 2)) _ _ Types i (joining_same i (s.result + 2) j.yields k.yields))

module _ (S : Setting) (rows : List ℕ) (means : Means rows S.table) where
  resume_same :
      (i : ℕ) (j₁ j₂ j₃ j₄ : Judged) →
      answer_of (resume_rule rows i j₁ j₂ j₃ j₄)
      ≡ and_then (instance_at S j₁.row) λ p.
      and_then (handled S p.0 p.1 (judgement_of j₂) (judgement_of j₃) (judgement_of j₄)) λ h.
      only_if (reads j₁.yields h.yields) (Some h)
  resume_same i j₁ j₂ j₃ j₄ =
      on_instance_same (shape_at rows j₁.row) _ Types i _
      (λ p.
      and_then (handled S p.0 p.1 (judgement_of j₂) (judgement_of j₃) (judgement_of j₄)) λ h.
      only_if (reads j₁.yields h.yields) (Some h))
      (means j₁.row) λ y c.
      on_coroutine_same (shape_at rows j₂.row) _ Types i _ (λ q. and_then (G y c q) K) (means j₂.row) (λ a w b.
      handlers (shape_at rows j₃.row) (shape_at rows j₄.row) (eqb a c) y w b (λ h. reads j₁.yields h.yields)
      (may_read j₂.yields w) (may_read j₃.yields w) (may_read j₄.yields w) i
      ∙ ap (λ o. and_then (and_then (and_then o as_coroutine) λ q₃. F y c (a, w, b) q₃ (row_of (shape_at rows j₄.row))) K) (means j₃.row)
      ∙ ap (λ o. and_then (and_then (coroutine_at S j₃.row) λ q₃. F y c (a, w, b) q₃ o) K) (means j₄.row))
      ∙ sym (associate (coroutine_at S j₂.row) (G y c) K)
    where
      K : Judgement → Option Judgement
      K h = only_if (reads j₁.yields h.yields) (Some h)

      F : ℕ → ℕ → ℕ × ℕ × ℕ → ℕ × ℕ × ℕ → Option Row → Option Judgement
      F y c q₂ q₃ o =
          and_then (and_then o as_coroutine) λ q₄.
          only_if (eqb q₂.0 c && eqb q₃.0 y && eqb q₄.0 0)
          (only_if (eqb q₃.1 q₂.1 && eqb q₄.1 q₂.1 && eqb q₃.2 q₂.2 && eqb q₄.2 q₂.2)
          (only_if (reads j₂.yields q₂.1 && reads j₃.yields q₂.1 && reads j₄.yields q₂.1) (judged q₂.2 q₂.1)))

      G : ℕ → ℕ → ℕ × ℕ × ℕ → Option Judgement
      G y c q₂ = and_then (coroutine_at S j₃.row) λ q₃. F y c q₂ q₃ (at S.table j₄.row)

  start_same :
      (i r : ℕ) (v u : Verdict) (o q : Option Judgement) → answer_of v ≡ o → answer_of u ≡ q →
      answer_of (after v λ j. after u λ k. start_rule rows i r j k)
      ≡ and_then (instance_at S r) λ p.
      and_then o λ j.
      and_then q λ k.
      and_then (coroutine_at S j.type) λ q.
      only_if (eqb k.type q.0 && eqb q.1 p.0 && eqb q.2 p.1)
      (and_then (join j.yields k.yields) λ Y. judged r Y)
  start_same i r v u o q e f =
      start_row (shape_at rows r) i v u _ G (λ y c.
      then_both v o _ _ e λ j.
      then_both u q _ _ f λ k.
      on_coroutine_same (shape_at rows j.row) _ Types i _ _ (means j.row) λ a w b.
      test (eqb k.row a && (eqb w y && eqb b c)) _ _ Types i (joining_same i r j.yields k.yields)
      ∙ ap (λ x. only_if x (and_then (join j.yields k.yields) λ Y. judged r Y)) (left₃ (eqb k.row a) (eqb w y) (eqb b c)))
      ∙ ap (λ z. and_then (and_then z as_instance) G) (means r)
    where
      G : ℕ × ℕ → Option Judgement
      G p =
          and_then o λ j.
          and_then q λ k.
          and_then (coroutine_at S j.type) λ q.
          only_if (eqb k.type q.0 && eqb q.1 p.0 && eqb q.2 p.1)
          (and_then (join j.yields k.yields) λ Y. judged r Y)

  pub same : (t : Term) → Program t → (Γ : List Variable) (i : ℕ) → answer_of (verdict S.set rows Γ i t) ≡ judge S [] (scope_of Γ) t
  unfolding judge
  same unit p Γ i = refl
  same (variable x) p Γ i = variable_same i (look_up Γ x) ∙ ap (λ o. and_then o (λ T. judged T 1)) (sym (look_same Γ x))
  same (abstraction x r b) p Γ i =
      abstraction_same (shape_at rows r) i r (λ a. verdict S.set rows (record { name = x; row = a } ∷ Γ) (i + 1) b)
      (λ a. judge S [] (bind x a (scope_of Γ)) b) (λ a. same b p (record { name = x; row = a } ∷ Γ) (i + 1))
      ∙ ap
      (λ z.
      and_then (and_then z as_function) λ p.
      and_then (judge S [] (bind x p.0 (scope_of Γ)) b) λ j. only_if (eqb j.type p.1 && eqb j.yields 1) (judged r 1))
      (means r)
  same (coroutine x r b) p Γ i =
      coroutine_same (shape_at rows r) i r (λ a. verdict S.set rows (record { name = x; row = a } ∷ Γ) (i + 1) b)
      (λ a. judge S [] (bind x a (scope_of Γ)) b) (λ a. same b p (record { name = x; row = a } ∷ Γ) (i + 1))
      ∙ ap
      (λ z.
      and_then (and_then z as_coroutine) λ p.
      and_then (judge S [] (bind x p.0 (scope_of Γ)) b) λ j. only_if (eqb j.type p.2 && reads j.yields p.1) (judged r 1))
      (means r)
  same (application f a) p Γ i =
      then_both _ _ _ _ (same f p.0 Γ (i + 1)) λ j.
      then_both _ _ _ _ (same a p.1 Γ (i + 1 + size f)) λ k.
      applied_same (shape_at rows j.row) i j k
      ∙ ap (λ z. and_then z (λ ty. applying ty (judgement_of j) (judgement_of k))) (means j.row)
  same (yield a) p Γ i =
      then_both _ _ _ _ (same a p Γ (i + 1)) λ j. test (may_read j.yields j.row) (accepted 0 j.row) _ YieldType i refl
  same (start r f a) p Γ i = start_same i r _ _ _ _ (same f p.0 Γ (i + 1)) (same a p.1 Γ (i + 1 + size f))
  same (resume a b c d) p Γ i =
      then_both _ _ _ _ (same a p.0 Γ (i + 1)) λ j₁.
      then_both _ _ _ _ (same b p.1 Γ (i + 1 + size a)) λ j₂.
      then_both _ _ _ _ (same c p.2 Γ (i + 1 + size a + size b)) λ j₃.
      then_both _ _ _ _ (same d p.3 Γ (i + 1 + size a + size b + size c)) λ j₄. resume_same i j₁ j₂ j₃ j₄
  same (snapshot a) p Γ i =
      then_both _ _ _ _ (same a p Γ (i + 1)) λ j. on_instance_same (shape_at rows j.row) _ Types i _ _ (means j.row) λ y c. refl
  same (fix a) p Γ i =
      then_both _ _ _ _ (same a p Γ (i + 1)) λ j.
      on_function_same (shape_at rows j.row) _ Types i _ _ (means j.row) λ a b.
      two_tests (eqb a b) (eqb j.yields 1) (accepted b 1) YieldType Types i
  same (atom k q) p Γ i =
      let e : k + 2 ≡ suc (suc k) = omega arith in
      test (ltb k S.set.bases && S.set.holds k q) (accepted (k + 2) 1) _ Quantity i refl
      ∙ ap (λ z. only_if (ltb k S.set.bases && S.set.holds k q) (judged z 1)) e
  same (operation o a b) p Γ i =
      operation_same (S.set.signature o) i _ _ _ _ (same a p.0 Γ (i + 1)) (same b p.1 Γ (i + 1 + size a))
  same (instance l r) p Γ i = absurd p
  same (resumption l a b c d) p Γ i = absurd p
  same (suspension a b) p Γ i = absurd p
