-- The step relation: a line at the end of the path.
use Rattle.std.specs.Prelude.{◌≡◌, ℕ, ◌⊎◌, [], ◌∷◌, ◌++◌, Some}
use Rattle.quantities.specs.Meaning.{Meaning}
use Rattle.calculus.specs.Lists.{at}
use Rattle.calculus.specs.Terms.{Term, coroutine, start, snapshot, instance, resumption, suspension, Value}
use Rattle.calculus.specs.Occurrences.{term_at, put_at}
use Rattle.calculus.specs.Configurations.{Binding, row_of, Bindings, rows, ◌∣◌}
use Rattle.calculus.specs.Frames.{Frame, plug, Proper}
use Rattle.calculus.specs.Places.{path}
use Rattle.calculus.specs.Lines.{Line}

-- Step Q t μ t' μ': over the quantity set Q, the term t with the bindings μ steps to t' with μ'.
pub data Step (Q : Meaning) : Term → Bindings → Term → Bindings → Type 0 where
  -- a line applies to the term
  line : {t t' : Term} {μ μ' : Bindings} → Line Q t μ t' μ' → Step Q t μ t' μ'
  -- an evaluated part makes a step
  e_context :
      (F : Frame) {t t' : Term} {μ μ' : Bindings} → Proper F → Step Q t μ t' μ' → Step Q (plug F t) μ (plug F t') μ'
  -- the body of a resumption makes a step
  e_executing :
      {l : ℕ} {t t' b c d : Term} {μ μ' : Bindings} → Step Q t μ t' μ' → Step Q (resumption l t b c d) μ (resumption l t' b c d) μ'

-- A line applies to the path's last term in t, and t' is t with what that term becomes in its place.
pub record LineAtPath (Q : Meaning) (t : Term) (μ : Bindings) (t' : Term) (μ' : Bindings) : Type 0 where
  pub last : Term
  pub becomes : Term
  pub last_is : term_at t (path t) ≡ Some last
  pub its_line : Line Q last μ becomes μ'
  pub whole : t' ≡ put_at t (path t) becomes

-- the configuration has no successor
abbrev pub Still : Meaning → Term → Bindings → Type 0
Still Q t μ = (t' : Term) (μ' : Bindings) → Step Q t μ t' μ' → ⊥

-- the step to t' and μ' is the only one
abbrev pub Only : Meaning → Term → Bindings → Term → Bindings → Type 0
Only Q t μ t' μ' = (u : Term) (ν : Bindings) → Step Q t μ u ν → (u ∣ ν) ≡ (t' ∣ μ')

-- the step of the whole is that of its part t in the frame F: t makes a step, or it is a suspension that moves out
abbrev pub StepOf : Meaning → Frame → Term → Bindings → Term → Bindings → Type 0
StepOf Q F t μ t' μ' =
    ((u : Term) × Step Q t μ u μ' × (t' ≡ plug F u)) ⊎
    ((u : Term) × (v : Term) × (t ≡ suspension u v) × (t' ≡ suspension (plug F u) v) × (μ' ≡ μ))

-- Where the row of a new binding comes from: it is that of the start where the path ends, or that of the binding copied by the snapshot
-- there.
pub data Origin (t : Term) (μ : Bindings) (r : ℕ) : Type 0 where
  of_start : {x s : ℕ} {b v : Term} → term_at t (path t) ≡ Some (start r (coroutine x s b) v) → Value v → Origin t μ r
  of_snapshot :
      {l k : ℕ} {β : Binding} → term_at t (path t) ≡ Some (snapshot (instance l k)) → at μ l ≡ Some β → row_of β ≡ r → Origin t μ r

-- What a step does to the rows of the bindings: they stay as they are, or there is one more at the end.
pub data Growth (t : Term) (μ μ' : Bindings) : Type 0 where
  same_rows : rows μ' ≡ rows μ → Growth t μ μ'
  one_more : (r : ℕ) → Origin t μ r → rows μ' ≡ rows μ ++ r ∷ [] → Growth t μ μ'
