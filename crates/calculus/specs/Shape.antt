-- The shape of a running configuration: where its resumptions and its suspension are.
use Rattle.std.specs.Prelude.{◌≡◌, ℕ, List, [], ◌∷◌, Some, ◌≢◌}
use Rattle.calculus.specs.Lists.{at}
use Rattle.calculus.specs.Terms.{Term, unit, variable, abstraction, coroutine, application, yield, start, resume, snapshot, fix, atom, operation, instance, resumption, suspension, Value}
use Rattle.calculus.specs.Configurations.{empty, ready, Bindings}
use Rattle.calculus.specs.Frames.{Frame, application_left, application_right, yield_frame, start_left, start_right, resume_first, resume_second, resume_third, resume_fourth, snapshot_frame, fix_frame, operation_left, operation_right, plug, Proper}

-- no resumption and no suspension inside
abbrev pub Plain : Term → Type 0
Plain unit = Unit {0}
Plain (variable n) = Unit {0}
Plain (abstraction x r b) = Plain b
Plain (coroutine x r b) = Plain b
Plain (application f a) = Plain f × Plain a
Plain (yield t) = Plain t
Plain (start i f a) = Plain f × Plain a
Plain (resume a b c d) = Plain a × Plain b × Plain c × Plain d
Plain (snapshot t) = Plain t
Plain (fix t) = Plain t
Plain (atom k p) = Unit {0}
Plain (operation o a b) = Plain a × Plain b
Plain (instance l r) = Unit {0}
Plain (resumption l a b c d) = ⊥
Plain (suspension t v) = ⊥

-- the parts beside the hole are plain
abbrev pub Beside : Frame → Type 0
Beside (application_left a) = Plain a
Beside (application_right f) = Plain f
Beside yield_frame = Unit {0}
Beside (start_left i a) = Plain a
Beside (start_right i f) = Plain f
Beside (resume_first b c d) = Plain b × Plain c × Plain d
Beside (resume_second a c d) = Plain a × Plain c × Plain d
Beside (resume_third a b d) = Plain a × Plain b × Plain d
Beside (resume_fourth a b c) = Plain a × Plain b × Plain c
Beside snapshot_frame = Unit {0}
Beside fix_frame = Unit {0}
Beside (operation_left o b) = Plain b
Beside (operation_right o a) = Plain a

-- Active t ls: the resumptions of t all lie on the path to the next step, and ls are their labels from outside in. A plain term has none;
-- a suspension's term and pending value are plain, and the pending value is a value; the path goes through a context whose parts left of
-- the hole are values, and all beside the hole is plain; it goes into a resumption, whose handlers are plain values.
pub data Active : Term → List ℕ → Type 0 where
  p_plain : {t : Term} → Plain t → Active t []
  p_suspended : {t v : Term} → Plain t → Plain v → Value v → Active (suspension t v) []
  p_through : (F : Frame) {t : Term} {ls : List ℕ} → Proper F → Beside F → Active t ls → Active (plug F t) ls
  p_executing :
      {l : ℕ} {t b c d : Term} {ls : List ℕ} → Value b × Value c × Value d → Plain b × Plain c × Plain d → Active t ls →
      Active (resumption l t b c d) (l ∷ ls)

-- l is none of the labels
abbrev pub Apart : ℕ → List ℕ → Type 0
Apart l [] = Unit {0}
Apart l (k ∷ ks) = (l ≢ k) × Apart l ks

-- no two of the labels are the same
abbrev pub Distinct : List ℕ → Type 0
Distinct [] = Unit {0}
Distinct (l ∷ ls) = Apart l ls × Distinct ls

-- the binding of each label is empty
abbrev pub Empties : Bindings → List ℕ → Type 0
Empties μ [] = Unit {0}
Empties μ (l ∷ ls) = ((i : ℕ) × (at μ l ≡ Some (empty i))) × Empties μ ls

-- every ready body is plain
pub record PlainBodies (μ : Bindings) : Type 0 where
  pub plain : (l i : ℕ) (t : Term) → at μ l ≡ Some (ready i t) → Plain t

-- Every resumption lies on the path, no two name one label, each one's binding is empty; values, ready bodies, suspended terms
-- and pending values hold no resumption and no suspension.
pub record Shaped (t : Term) (μ : Bindings) : Type 0 where
  pub labels : List ℕ
  pub active : Active t labels
  pub distinct : Distinct labels
  pub empties : Empties μ labels
  pub bodies : PlainBodies μ
