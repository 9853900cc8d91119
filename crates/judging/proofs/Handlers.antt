-- The handlers of a resume, looked at one by one here and together there.
use Rattle.std.proofs.Common.{◌≡◌, ℕ, Bool, true, false, cond, ◌&&◌, eqb, Some, None, Ok, refl, ap, ◌∙◌}
use Rattle.faults.specs.declared.numbers.FaultNumber.TheVariants.{Types, YieldType}
use Rattle.rules.specs.declared.model.Judged.{Judged}
use Rattle.rules.specs.declared.model.Shape.{Shape}
use Rattle.rules.specs.declared.model.Shape.TheVariants.{UnitRow, BottomRow, BaseRow, FunctionRow, CoroutineRow, InstanceRow, NoRow}
use Rattle.rules.specs.Table.{on_coroutine}
use Rattle.rules.specs.Rules.{Verdict, accepted, refused}
use Rattle.calculus.specs.Judgement.{Judgement, judged, and_then, only_if, as_coroutine}
use Rattle.judging.specs.Answers.{judgement_of, answer_of}
use Rattle.judging.proofs.Tables.{row_of}
use Rattle.judging.proofs.Steps.{no_answer, left₃}

-- a coroutine type with this argument, yield type and result
abbrev pub matches : Shape → ℕ → ℕ → ℕ → Bool
matches s A W B = on_coroutine s false λ a w b. eqb a A && (eqb w W && eqb b B)

and_false : (x : Bool) → x && false ≡ false
and_false true = refl
and_false false = refl

fails : (x : Bool) (v : Verdict) (i : ℕ) → x ≡ false → answer_of (cond x v (refused Types i)) ≡ None
fails x v i e = ap (λ b. answer_of (cond b v (refused Types i))) e ∙ no_answer Types i

middle : (w₃ b₃ w₄ b₄ : Bool) → (w₃ && b₃) && (w₄ && b₄) ≡ ((w₃ && w₄) && b₃) && b₄
middle false b₃ w₄ b₄ = refl
middle true b₃ true b₄ = refl
middle true b₃ false b₄ = and_false b₃

-- the six tests in the other order
regroup :
    (x a₃ w₃ b₃ a₄ w₄ b₄ : Bool) →
    x && ((a₃ && (w₃ && b₃)) && (a₄ && (w₄ && b₄))) ≡ ((x && a₃) && a₄) && (((w₃ && w₄) && b₃) && b₄)
regroup false a₃ w₃ b₃ a₄ w₄ b₄ = refl
regroup true false w₃ b₃ a₄ w₄ b₄ = refl
regroup true true w₃ b₃ true w₄ b₄ = middle w₃ b₃ w₄ b₄
regroup true true w₃ b₃ false w₄ b₄ = and_false (w₃ && b₃)

-- the yield types of the handlers, and then that of the instance
in_order :
    (x y r q : Bool) (j : Judged) (R : Judgement → Bool) (i : ℕ) → r ≡ R (judgement_of j) →
    answer_of (cond (x && y) (cond (r && q) (Ok j) (refused YieldType i)) (refused Types i))
    ≡ and_then (only_if x (only_if y (only_if q (Some (judgement_of j))))) (λ h. only_if (R h) (Some h))
in_order true true true true j R i e = ap (λ b. only_if b (Some (judgement_of j))) e
in_order true true false true j R i e = no_answer YieldType i ∙ ap (λ b. only_if b (Some (judgement_of j))) e
in_order true true true false j R i e = no_answer YieldType i
in_order true true false false j R i e = no_answer YieldType i
in_order true false r q j R i e = no_answer Types i
in_order false y r q j R i e = no_answer Types i

-- the third and the fourth part have matching types, and the yield types fit
pub handlers :
    (s₃ s₄ : Shape) (x : Bool) (y w b : ℕ) (R : Judgement → Bool) (p q u : Bool) (i : ℕ) →
    answer_of
    (cond (x && (matches s₃ y w b && matches s₄ 0 w b))
    (cond (R (record { type = b; yields = w }) && (p && (q && u))) (accepted b w) (refused YieldType i))
    (refused Types i))
    ≡ and_then
    (and_then (and_then (row_of s₃) as_coroutine) λ q₃.
    and_then (and_then (row_of s₄) as_coroutine) λ q₄.
    only_if (x && eqb q₃.0 y && eqb q₄.0 0)
    (only_if (eqb q₃.1 w && eqb q₄.1 w && eqb q₃.2 b && eqb q₄.2 b) (only_if (p && q && u) (judged b w))))
    (λ h. only_if (R h) (Some h))
handlers UnitRow s₄ x y w b R p q u i = fails (x && false) _ i (and_false x)
handlers BottomRow s₄ x y w b R p q u i = fails (x && false) _ i (and_false x)
handlers (BaseRow k) s₄ x y w b R p q u i = fails (x && false) _ i (and_false x)
handlers (FunctionRow a₃ b₃) s₄ x y w b R p q u i = fails (x && false) _ i (and_false x)
handlers (CoroutineRow a₃ w₃ b₃) s₄ x y w b R p q u i = by s₄
  where
    none : answer_of
        (cond (x && ((eqb a₃ y && (eqb w₃ w && eqb b₃ b)) && false))
        (cond (R (record { type = b; yields = w }) && (p && (q && u))) (accepted b w) (refused YieldType i)) (refused Types i))
        ≡ None
    none =
        fails (x && ((eqb a₃ y && (eqb w₃ w && eqb b₃ b)) && false)) _ i
        (ap (λ c. x && c) (and_false (eqb a₃ y && (eqb w₃ w && eqb b₃ b))) ∙ and_false x)

    by : (s₄ : Shape) →
        answer_of
        (cond (x && ((eqb a₃ y && (eqb w₃ w && eqb b₃ b)) && matches s₄ 0 w b))
        (cond (R (record { type = b; yields = w }) && (p && (q && u))) (accepted b w) (refused YieldType i)) (refused Types i))
        ≡ and_then
        (and_then (and_then (row_of s₄) as_coroutine) λ q₄.
        only_if (x && eqb a₃ y && eqb q₄.0 0)
        (only_if (eqb w₃ w && eqb q₄.1 w && eqb b₃ b && eqb q₄.2 b) (only_if (p && q && u) (judged b w))))
        (λ h. only_if (R h) (Some h))
    by UnitRow = none
    by BottomRow = none
    by (BaseRow k) = none
    by (FunctionRow a₄ b₄) = none
    by (CoroutineRow a₄ w₄ b₄) =
        ap (λ c. answer_of (cond c (cond (R (record { type = b; yields = w }) && (p && (q && u))) (accepted b w) (refused YieldType i)) (refused Types i)))
        (regroup x (eqb a₃ y) (eqb w₃ w) (eqb b₃ b) (eqb a₄ 0) (eqb w₄ w) (eqb b₄ b))
        ∙ in_order (x && eqb a₃ y && eqb a₄ 0) (eqb w₃ w && eqb w₄ w && eqb b₃ b && eqb b₄ b) (R (record { type = b; yields = w }))
        (p && (q && u)) (record { row = b; yields = w }) R i refl
        ∙ ap
        (λ c.
        and_then
        (only_if (x && eqb a₃ y && eqb a₄ 0) (only_if (eqb w₃ w && eqb w₄ w && eqb b₃ b && eqb b₄ b) (only_if c (judged b w))))
        (λ h. only_if (R h) (Some h)))
        (left₃ p q u)
    by (InstanceRow w₄ b₄) = none
    by NoRow = none
handlers (InstanceRow w₃ b₃) s₄ x y w b R p q u i = fails (x && false) _ i (and_false x)
handlers NoRow s₄ x y w b R p q u i = fails (x && false) _ i (and_false x)
