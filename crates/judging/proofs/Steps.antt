-- Steps of a verdict against those of a judgement: what follows a part, a test, and the look at a row.
use Rattle.std.proofs.Common.{◌≡◌, ℕ, Bool, true, false, cond, ◌&&◌, Some, None, Ok, Err, Option, refl, ap, ◌∙◌}
use Rattle.faults.specs.declared.numbers.FaultNumber.{FaultNumber}
use Rattle.rules.specs.declared.model.Judged.{Judged}
use Rattle.rules.specs.declared.model.Shape.{Shape}
use Rattle.rules.specs.declared.model.Shape.TheVariants.{UnitRow, BottomRow, BaseRow, FunctionRow, CoroutineRow, InstanceRow, NoRow}
use Rattle.rules.specs.Table.{on_function, on_coroutine, on_instance}
use Rattle.rules.specs.Rules.{Verdict, refused}
use Rattle.calculus.specs.Rows.{Row}
use Rattle.calculus.specs.Judgement.{Judgement, and_then, only_if, as_function, as_coroutine, as_instance}
use Rattle.judging.specs.Verdicts.{after}
use Rattle.judging.specs.Answers.{judgement_of, answer_of}
use Rattle.judging.proofs.Tables.{row_of}

pub no_answer : (n : FaultNumber) (i : ℕ) → answer_of (refused n i) ≡ None
unfolding refused
no_answer n i = refl

-- a part on both sides
pub then_both :
    (v : Verdict) (o : Option Judgement) (f : Judged → Verdict) (g : Judgement → Option Judgement) → answer_of v ≡ o →
    ((j : Judged) → answer_of (f j) ≡ g (judgement_of j)) → answer_of (after v f) ≡ and_then o g
then_both (Ok j) o f g e h = h j ∙ ap (λ q. and_then q g) e
then_both (Err x) o f g e h = ap (λ q. and_then q g) e

-- a part that no answer follows
pub no_good : (v : Verdict) (f : Judged → Verdict) → ((j : Judged) → answer_of (f j) ≡ None) → answer_of (after v f) ≡ None
no_good (Ok j) f h = h j
no_good (Err x) f h = refl

-- a test
pub test : (x : Bool) (v : Verdict) (o : Option Judgement) (n : FaultNumber) (i : ℕ) → answer_of v ≡ o →
    answer_of (cond x v (refused n i)) ≡ only_if x o
test true v o n i e = e
test false v o n i e = no_answer n i

pub two_tests : (x y : Bool) (v : Verdict) (n k : FaultNumber) (i : ℕ) →
    answer_of (cond x (cond y v (refused n i)) (refused k i)) ≡ only_if (x && y) (answer_of v)
two_tests true y v n k i = test y v (answer_of v) n i refl
two_tests false y v n k i = no_answer k i

pub left₃ : (a b c : Bool) → a && (b && c) ≡ (a && b) && c
left₃ true b c = refl
left₃ false b c = refl

pub associate : {A B D : Type 0} (o : Option A) (f : A → Option B) (g : B → Option D) →
    and_then (and_then o f) g ≡ and_then o (λ a. and_then (f a) g)
associate None f g = refl
associate (Some a) f g = refl

-- the look at a row
pub on_function_same :
    (s : Shape) (o : Option Row) (n : FaultNumber) (i : ℕ) (f : ℕ → ℕ → Verdict) (g : ℕ × ℕ → Option Judgement) → row_of s ≡ o →
    ((a b : ℕ) → answer_of (f a b) ≡ g (a, b)) → answer_of (on_function s (refused n i) f) ≡ and_then (and_then o as_function) g
on_function_same s o n i f g e h = by s ∙ ap (λ q. and_then (and_then q as_function) g) e
  where
    by : (s : Shape) → answer_of (on_function s (refused n i) f) ≡ and_then (and_then (row_of s) as_function) g
    by UnitRow = no_answer n i
    by BottomRow = no_answer n i
    by (BaseRow k) = no_answer n i
    by (FunctionRow a b) = h a b
    by (CoroutineRow a w b) = no_answer n i
    by (InstanceRow w b) = no_answer n i
    by NoRow = no_answer n i

pub on_coroutine_same :
    (s : Shape) (o : Option Row) (n : FaultNumber) (i : ℕ) (f : ℕ → ℕ → ℕ → Verdict) (g : ℕ × ℕ × ℕ → Option Judgement) → row_of s ≡ o →
    ((a w b : ℕ) → answer_of (f a w b) ≡ g (a, w, b)) →
    answer_of (on_coroutine s (refused n i) f) ≡ and_then (and_then o as_coroutine) g
on_coroutine_same s o n i f g e h = by s ∙ ap (λ q. and_then (and_then q as_coroutine) g) e
  where
    by : (s : Shape) → answer_of (on_coroutine s (refused n i) f) ≡ and_then (and_then (row_of s) as_coroutine) g
    by UnitRow = no_answer n i
    by BottomRow = no_answer n i
    by (BaseRow k) = no_answer n i
    by (FunctionRow a b) = no_answer n i
    by (CoroutineRow a w b) = h a w b
    by (InstanceRow w b) = no_answer n i
    by NoRow = no_answer n i

pub on_instance_same :
    (s : Shape) (o : Option Row) (n : FaultNumber) (i : ℕ) (f : ℕ → ℕ → Verdict) (g : ℕ × ℕ → Option Judgement) → row_of s ≡ o →
    ((w b : ℕ) → answer_of (f w b) ≡ g (w, b)) → answer_of (on_instance s (refused n i) f) ≡ and_then (and_then o as_instance) g
on_instance_same s o n i f g e h = by s ∙ ap (λ q. and_then (and_then q as_instance) g) e
  where
    by : (s : Shape) → answer_of (on_instance s (refused n i) f) ≡ and_then (and_then (row_of s) as_instance) g
    by UnitRow = no_answer n i
    by BottomRow = no_answer n i
    by (BaseRow k) = no_answer n i
    by (FunctionRow a b) = no_answer n i
    by (CoroutineRow a w b) = no_answer n i
    by (InstanceRow w b) = h w b
    by NoRow = no_answer n i
