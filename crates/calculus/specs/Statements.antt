-- What is proved of the calculus: each promise is one statement.
use Rattle.std.specs.Prelude.{◌≡◌, ℕ, false, ◌⊎◌, ◌↔◌, List, [], Some}
use Rattle.quantities.specs.Meaning.{Meaning}
use Rattle.calculus.specs.Lists.{at, put}
use Rattle.calculus.specs.Terms.{Term, unit, application, resume, fix, instance, resumption, suspension, is_value, Value, Program}
use Rattle.calculus.specs.Replacement.{replace}
use Rattle.calculus.specs.Occurrences.{Position, term_at, put_at, ResumptionAt}
use Rattle.calculus.specs.Rows.{Setting, IsRow, WellFormed}
use Rattle.calculus.specs.Typing.{Scope, bind, InScope, Reads, Typed}
use Rattle.calculus.specs.Judgement.{judged, judge}
use Rattle.calculus.specs.Configurations.{empty, ready, Bindings, ◌∣◌, Configured}
use Rattle.calculus.specs.Frames.{Frame, plug, Proper}
use Rattle.calculus.specs.Places.{path}
use Rattle.calculus.specs.Lines.{Line}
use Rattle.calculus.specs.Steps.{Step, Still, Only, StepOf, Growth}
use Rattle.calculus.specs.Next.{next}
use Rattle.calculus.specs.Shape.{Shaped}
use Rattle.calculus.specs.Resumptions.{EndsOnEmpty}
use Rattle.calculus.specs.WellTyped.{WellTyped}
use Rattle.calculus.specs.Outcomes.{Outcome, OutcomeOrStuck}
use Rattle.calculus.specs.Histories.{History, Safe}

-- A term has type T and yield type Y exactly when the judgement answers T and a yield type Z that may be read as Y.
abbrev pub Checking : Type 0
Checking =
    (S : Setting) → WellFormed S → (Σ : List ℕ) (Γ : Scope) → InScope S Γ → (t : Term) (T Y : ℕ) →
    Typed S Σ Γ t T Y ↔ ((Z : ℕ) × (judge S Σ Γ t ≡ judged T Z) × Reads S Z Y)

-- A term has one type at most.
abbrev pub OneType : Type 0
OneType =
    (S : Setting) (Σ : List ℕ) (Γ : Scope) (t : Term) (T U Y Z : ℕ) → Typed S Σ Γ t T Y → Typed S Σ Γ t U Z → T ≡ U

-- The step relation and the step as a function agree.
abbrev pub Agreement : Type 0
Agreement =
    (Q : Meaning) (t : Term) (μ : Bindings) (t' : Term) (μ' : Bindings) → Step Q t μ t' μ' ↔ (next Q t μ ≡ Some (t' ∣ μ'))

-- A configuration has at most one successor.
abbrev pub OneSuccessor : Type 0
OneSuccessor =
    (Q : Meaning) (t t₁ t₂ : Term) (μ μ₁ μ₂ : Bindings) → Step Q t μ t₁ μ₁ → Step Q t μ t₂ μ₂ → (t₁ ∣ μ₁) ≡ (t₂ ∣ μ₂)

-- A value has no successor, and a suspension at the root has none.
abbrev pub Rest : Type 0
Rest = (Q : Meaning) (μ : Bindings) → ((v : Term) → Value v → Still Q v μ) × ((t v : Term) → Still Q (suspension t v) μ)

-- A step keeps the rules of a configuration, and so does taking an offer; a program term with no binding keeps them.
abbrev pub RulesKept : Type 0
RulesKept =
    ((Q : Meaning) (t t' : Term) (μ μ' : Bindings) → Configured t μ → Step Q t μ t' μ' → Configured t' μ') ×
    ((t v : Term) (μ : Bindings) → Configured (suspension t v) μ → Configured t μ) ×
    ((p : Term) → Program p → Configured p [])

-- Types and yield types are rows of the table.
abbrev pub RowsOfTheTable : Type 0
RowsOfTheTable =
    (S : Setting) → WellFormed S → (Σ : List ℕ) (Γ : Scope) → InScope S Γ → (t : Term) (T Y : ℕ) → Typed S Σ Γ t T Y →
    IsRow S T × IsRow S Y

-- Replacing a name by a closed value of its type, or by a closed `fix` term of its type, keeps type and yield type, whatever else is in
-- scope. (Both have yield type ⊥, whatever Z it is read as.)
abbrev pub Replacement : Type 0
Replacement =
    (S : Setting) (Σ : List ℕ) (Γ : Scope) (x A Z : ℕ) (s t : Term) (T Y : ℕ) → (Value s ⊎ ((f : Term) × (s ≡ fix f))) →
    Typed S Σ [] s A Z → Typed S Σ (bind x A Γ) t T Y → Typed S Σ Γ (replace x s t) T Y

-- A step keeps the type and the yield type of the term, and those of every ready body. Rows of bindings only grow at the end,
-- by the row of the start or of the copied binding. Taking an offer keeps types and yield types too.
abbrev pub Preservation : Type 0
Preservation =
    ((S : Setting) → WellFormed S → (t t' : Term) (μ μ' : Bindings) (T Y : ℕ) → WellTyped S t μ T Y → Step S.set t μ t' μ' →
    WellTyped S t' μ' T Y × Growth t μ μ') ×
    ((S : Setting) (u v : Term) (μ : Bindings) (T Y : ℕ) → WellTyped S (suspension u v) μ T Y → WellTyped S u μ T Y)

-- A well-typed configuration is exactly one of: a value; a suspension whose pending value has the yield type, which is not ⊥; a
-- configuration with exactly one successor; stuck: the path ends at a resumption of a value or of a suspension whose binding is ready.
abbrev pub OutcomesOfTyped : Type 0
OutcomesOfTyped =
    (S : Setting) → WellFormed S → (t : Term) (μ : Bindings) (T Y : ℕ) → WellTyped S t μ T Y → OutcomeOrStuck S t μ Y

-- So, where a resumption at the end of the path has an empty binding, a well-typed configuration is exactly one of the first three.
abbrev pub Progress : Type 0
Progress =
    (S : Setting) → WellFormed S → (t : Term) (μ : Bindings) (T Y : ℕ) → WellTyped S t μ T Y → EndsOnEmpty t μ → Outcome S t μ Y

-- A step keeps the shape, and so does taking an offer.
abbrev pub ShapeKept : Type 0
ShapeKept =
    (Q : Meaning) (t : Term) (μ : Bindings) → Shaped t μ →
    ((t' : Term) (μ' : Bindings) → Step Q t μ t' μ' → Shaped t' μ') × ((u v : Term) → t ≡ suspension u v → Shaped u μ)

-- What `Safe` lists holds in every history of a well-typed program, over every quantity set that keeps its law.
abbrev pub Always : Type 0
Always =
    (S : Setting) → WellFormed S → (p : Term) → Program p → (T Y : ℕ) → Typed S [] [] p T Y → (t : Term) (μ : Bindings) →
    History S.set p t μ → Safe S t μ T Y

-- A suspension never climbs past a resumption: where the path ends at a resumption of a suspension, the only step is that the third part
-- is applied to the pending value, in the place of the resumption, and the binding becomes ready with the suspended term.
abbrev pub Confinement : Type 0
Confinement =
    (Q : Meaning) (t t' : Term) (μ ν : Bindings) (l : ℕ) (u v b c d : Term) →
    term_at t (path t) ≡ Some (resumption l (suspension u v) b c d) → Step Q t μ t' ν →
    (t' ≡ put_at t (path t) (application c v)) × ((i : ℕ) × (at μ l ≡ Some (empty i)) × (ν ≡ put μ l (ready i u)))

-- Parts are evaluated from left to right: where those left of a part are values and the part is none, the step is the part's.
abbrev pub InOrder : Type 0
InOrder =
    (Q : Meaning) (F : Frame) (t t' : Term) (μ μ' : Bindings) → Proper F → is_value t ≡ false → Step Q (plug F t) μ t' μ' →
    StepOf Q F t μ t' μ'

-- A line at a resume is a pause, or the instance and all three handlers are values, whether the binding is ready or empty.
abbrev pub HandlersFirst : Type 0
HandlersFirst =
    (Q : Meaning) (a b c d t' : Term) (μ μ' : Bindings) → Line Q (resume a b c d) μ t' μ' →
    ((u : Term) × (v : Term) × (t' ≡ suspension u v)) ⊎ (Value a × Value b × Value c × Value d)

-- An instance never runs twice: while it executes (a resumption with its label stands in the term), a resume of it, its parts values,
-- has one step, and that only applies the fourth part to unit.
abbrev pub NeverTwice : Type 0
NeverTwice =
    (Q : Meaning) (t : Term) (μ : Bindings) (p : Position) (l r : ℕ) (b c d : Term) → Shaped t μ → ResumptionAt t p l →
    term_at t (path t) ≡ Some (resume (instance l r) b c d) → Value b → Value c → Value d →
    Step Q t μ (put_at t (path t) (application d unit)) μ × Only Q t μ (put_at t (path t) (application d unit)) μ
