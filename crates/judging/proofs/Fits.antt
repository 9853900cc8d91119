-- What the rules of types say: where a rule refuses its parts, it does so at its place, by 13 if it accepts the same parts
-- with yield type ⊥, and by 12 if it does not.
use Rattle.std.proofs.Common.{◌≡◌, ℕ, ◌+◌, Bool, true, false, cond, ◌&&◌, ◌||◌, eqb, ◌⊎◌, List, Some, Ok, Err, sym, refl, ap, inl, inr, arith}
use Rattle.faults.specs.declared.Fault.{Fault}
use Rattle.faults.specs.declared.numbers.FaultNumber.{FaultNumber}
use Rattle.faults.specs.declared.numbers.FaultNumber.TheVariants.{Types, YieldType}
use Rattle.faults.specs.Faults.{fault_of}
use Rattle.quantities.specs.declared.Signature.{Signature}
use Rattle.rules.specs.declared.model.Judged.{Judged}
use Rattle.rules.specs.declared.model.Shape.{Shape}
use Rattle.rules.specs.declared.model.Shape.TheVariants.{UnitRow, BottomRow, BaseRow, FunctionRow, CoroutineRow, InstanceRow, NoRow}
use Rattle.rules.specs.Table.{shape_at, on_function, on_coroutine, on_instance}
use Rattle.rules.specs.Rules.{Verdict, accepted, refused, may_read, joining, abstraction_rule, coroutine_rule, application_rule, yield_rule, start_rule, all_may_read, is_coroutine, resume_rule, snapshot_rule, fix_rule, operation_rule}

-- the same type, with yield type ⊥
abbrev pub quiet : Judged → Judged
quiet j = record { row = j.row; yields = 1 }

-- v is what a rule says of its parts, and q what it says of them with yield type ⊥
pub record Fit (i : ℕ) (v q : Verdict) : Type 0 where
  pub from :
      (f : Fault) → v ≡ Err f →
      (f.place ≡ i) ×
      (((f.number ≡ Types) × ((j : Judged) → q ≡ Ok j → ⊥)) ⊎ ((f.number ≡ YieldType) × ((j : Judged) × (q ≡ Ok j))))

-- a refusal's place and number
pub place_of : (n : FaultNumber) (i : ℕ) (f : Fault) → refused n i ≡ Err f → f.place ≡ i
unfolding refused
place_of n i f e = let z : fault_of n i ≡ f = cc in sym (ap (λ (x : Fault). x.place) z)

pub number_refused : (n : FaultNumber) (i : ℕ) (f : Fault) → refused n i ≡ Err f → f.number ≡ n
unfolding refused
number_refused n i f e = let z : fault_of n i ≡ f = cc in sym (ap (λ (x : Fault). x.number) z)

pub not_accepted : (n : FaultNumber) (i : ℕ) (j : Judged) → refused n i ≡ Ok j → ⊥
unfolding refused
not_accepted n i j e = let z : ◌≡◌ {A = ℕ} 0 1 = cc in omega arith

pub not_refused : {A : Type 0} (j : Judged) (f : Fault) → ◌≡◌ {A = Verdict} (Ok j) (Err f) → A
not_refused j f e = let z : ◌≡◌ {A = ℕ} 0 1 = cc in absurd (omega arith)

fit_accepted : (i : ℕ) (j : Judged) (q : Verdict) → Fit i (Ok j) q
fit_accepted i j q = record { from = λ f e. not_refused j f e }

pub fit_types : (i : ℕ) → Fit i (refused Types i) (refused Types i)
fit_types i = record { from = λ f e. (place_of Types i f e, inl (number_refused Types i f e, not_accepted Types i)) }

fit_yields : (i : ℕ) (j : Judged) (q : Verdict) → q ≡ Ok j → Fit i (refused YieldType i) q
fit_yields i j q h = record { from = λ f e. (place_of YieldType i f e, inr (number_refused YieldType i f e, (j, h))) }

-- a test of types
fit_test : (i : ℕ) (b : Bool) (v q : Verdict) → Fit i v q → Fit i (cond b v (refused Types i)) (cond b q (refused Types i))
fit_test i true v q h = h
fit_test i false v q h = fit_types i

-- a test of yield types, which yield type ⊥ passes
fit_reads :
    (i : ℕ) (x y : Bool) (j k : Judged) → y ≡ true →
    Fit i (cond x (Ok j) (refused YieldType i)) (cond y (Ok k) (refused YieldType i))
fit_reads i true y j k h = fit_accepted i j _
fit_reads i false y j k h = fit_yields i k _ (ap (λ b. cond b (Ok k) (refused YieldType i)) h)

fit_function :
    (i : ℕ) (s : Shape) (f g : ℕ → ℕ → Verdict) → ((a b : ℕ) → Fit i (f a b) (g a b)) →
    Fit i (on_function s (refused Types i) f) (on_function s (refused Types i) g)
fit_function i UnitRow f g h = fit_types i
fit_function i BottomRow f g h = fit_types i
fit_function i (BaseRow k) f g h = fit_types i
fit_function i (FunctionRow a b) f g h = h a b
fit_function i (CoroutineRow a w b) f g h = fit_types i
fit_function i (InstanceRow w b) f g h = fit_types i
fit_function i NoRow f g h = fit_types i

fit_coroutine :
    (i : ℕ) (s : Shape) (f g : ℕ → ℕ → ℕ → Verdict) → ((a w b : ℕ) → Fit i (f a w b) (g a w b)) →
    Fit i (on_coroutine s (refused Types i) f) (on_coroutine s (refused Types i) g)
fit_coroutine i UnitRow f g h = fit_types i
fit_coroutine i BottomRow f g h = fit_types i
fit_coroutine i (BaseRow k) f g h = fit_types i
fit_coroutine i (FunctionRow a b) f g h = fit_types i
fit_coroutine i (CoroutineRow a w b) f g h = h a w b
fit_coroutine i (InstanceRow w b) f g h = fit_types i
fit_coroutine i NoRow f g h = fit_types i

fit_instance :
    (i : ℕ) (s : Shape) (f g : ℕ → ℕ → Verdict) → ((w b : ℕ) → Fit i (f w b) (g w b)) →
    Fit i (on_instance s (refused Types i) f) (on_instance s (refused Types i) g)
fit_instance i UnitRow f g h = fit_types i
fit_instance i BottomRow f g h = fit_types i
fit_instance i (BaseRow k) f g h = fit_types i
fit_instance i (FunctionRow a b) f g h = fit_types i
fit_instance i (CoroutineRow a w b) f g h = fit_types i
fit_instance i (InstanceRow w b) f g h = h w b
fit_instance i NoRow f g h = fit_types i

bottom_reads : (w : ℕ) → may_read 1 w ≡ true
bottom_reads w = by (eqb 1 w)
  where
    by : (b : Bool) → (b || true) ≡ true
    by true = refl
    by false = refl

both : (a b : Bool) → a ≡ true → b ≡ true → a && b ≡ true
both true b p q = q
both false b p q = p

fit_joining : (i T V W : ℕ) → Fit i (joining i T V W) (joining i T 1 1)
fit_joining i T V W = by (may_read V W) (may_read W V)
  where
    by : (x y : Bool) → Fit i (cond x (accepted T W) (cond y (accepted T V) (refused YieldType i))) (accepted T 1)
    by true y = fit_accepted i _ _
    by false true = fit_accepted i _ _
    by false false = fit_yields i _ _ refl

module _ (rows : List ℕ) (i : ℕ) where
  pub fit_abstraction : (r : ℕ) (j : Judged) → Fit i (abstraction_rule rows i r j) (abstraction_rule rows i r (quiet j))
  fit_abstraction r j =
      fit_function i (shape_at rows r) _ _ λ a b. fit_test i (eqb j.row b) _ _ (fit_reads i (eqb j.yields 1) true _ _ refl)

  pub fit_coroutine_rule : (r : ℕ) (j : Judged) → Fit i (coroutine_rule rows i r j) (coroutine_rule rows i r (quiet j))
  fit_coroutine_rule r j =
      fit_coroutine i (shape_at rows r) _ _ λ a w b.
      fit_test i (eqb j.row b) _ _ (fit_reads i (may_read j.yields w) (may_read 1 w) _ _ (bottom_reads w))

  pub fit_application : (j k : Judged) → Fit i (application_rule rows i j k) (application_rule rows i (quiet j) (quiet k))
  fit_application j k = by (shape_at rows j.row)
    where
      called : (a w b : ℕ) →
          Fit i
          (cond (eqb k.row a) (cond (may_read j.yields w && may_read k.yields w) (accepted b w) (refused YieldType i)) (refused Types i))
          (cond (eqb k.row a) (cond (may_read 1 w && may_read 1 w) (accepted b w) (refused YieldType i)) (refused Types i))
      called a w b =
          fit_test i (eqb k.row a) _ _
          (fit_reads i (may_read j.yields w && may_read k.yields w) (may_read 1 w && may_read 1 w) _ _
          (both (may_read 1 w) (may_read 1 w) (bottom_reads w) (bottom_reads w)))

      by : (s : Shape) →
          Fit i
          (on_function s
          (on_coroutine s (refused Types i) λ a w b.
          cond (eqb k.row a) (cond (may_read j.yields w && may_read k.yields w) (accepted b w) (refused YieldType i)) (refused Types i))
          (λ a b. cond (eqb k.row a) (joining i b j.yields k.yields) (refused Types i)))
          (on_function s
          (on_coroutine s (refused Types i) λ a w b.
          cond (eqb k.row a) (cond (may_read 1 w && may_read 1 w) (accepted b w) (refused YieldType i)) (refused Types i))
          (λ a b. cond (eqb k.row a) (joining i b 1 1) (refused Types i)))
      by UnitRow = fit_types i
      by BottomRow = fit_types i
      by (BaseRow b) = fit_types i
      by (FunctionRow a b) = fit_test i (eqb k.row a) _ _ (fit_joining i b j.yields k.yields)
      by (CoroutineRow a w b) = called a w b
      by (InstanceRow w b) = fit_types i
      by NoRow = fit_types i

  pub fit_yield : (j : Judged) → Fit i (yield_rule i j) (yield_rule i (quiet j))
  fit_yield j = fit_reads i (may_read j.yields j.row) (may_read 1 j.row) _ _ (bottom_reads j.row)

  pub fit_start : (r : ℕ) (j k : Judged) → Fit i (start_rule rows i r j k) (start_rule rows i r (quiet j) (quiet k))
  fit_start r j k =
      fit_instance i (shape_at rows r) _ _ λ y c.
      fit_coroutine i (shape_at rows j.row) _ _ λ a w b.
      fit_test i (eqb k.row a && (eqb w y && eqb b c)) _ _ (fit_joining i r j.yields k.yields)

  pub fit_resume :
      (j₁ j₂ j₃ j₄ : Judged) →
      Fit i (resume_rule rows i j₁ j₂ j₃ j₄) (resume_rule rows i (quiet j₁) (quiet j₂) (quiet j₃) (quiet j₄))
  fit_resume j₁ j₂ j₃ j₄ =
      fit_instance i (shape_at rows j₁.row) _ _ λ y c.
      fit_coroutine i (shape_at rows j₂.row) _ _ λ a w b.
      fit_test i (eqb a c && (is_coroutine rows j₃ y w b && is_coroutine rows j₄ 0 w b)) _ _
      (fit_reads i (all_may_read w j₁ j₂ j₃ j₄) (all_may_read w (quiet j₁) (quiet j₂) (quiet j₃) (quiet j₄)) _ _
      (let r = bottom_reads w in both (may_read 1 w) _ r (both (may_read 1 w) _ r (both (may_read 1 w) (may_read 1 w) r r))))

  pub fit_snapshot : (j : Judged) → Fit i (snapshot_rule rows i j) (snapshot_rule rows i (quiet j))
  fit_snapshot j = fit_instance i (shape_at rows j.row) _ _ λ y c. fit_accepted i j _

  pub fit_fix : (j : Judged) → Fit i (fix_rule rows i j) (fix_rule rows i (quiet j))
  fit_fix j =
      fit_function i (shape_at rows j.row) _ _ λ a b. fit_test i (eqb a b) _ _ (fit_reads i (eqb j.yields 1) true _ _ refl)

  pub fit_operation : (s : Signature) (j k : Judged) → Fit i (operation_rule i (Some s) j k) (operation_rule i (Some s) (quiet j) (quiet k))
  fit_operation s j k =
      fit_test i (eqb j.row (s.first + 2) && eqb k.row (s.second + 2)) _ _
      (fit_joining i (s.result + 2) j.yields k.yields)
