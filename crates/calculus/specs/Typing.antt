-- The typing relation: under the variables in scope a term has a type and a yield type, both rows of the table.
use Rattle.std.specs.Prelude.{◌≡◌, ℕ, ◌<◌, true, cond, List, [], ◌∷◌, Some, None, Option, ◌==◌}
use Rattle.quantities.specs.declared.Signature.{Signature}
use Rattle.calculus.specs.Lists.{at}
use Rattle.calculus.specs.Terms.{Term, unit, variable, abstraction, coroutine, application, yield, start, resume, snapshot, fix, atom, operation, instance, resumption, suspension, Value}
use Rattle.calculus.specs.Rows.{unit_row, bottom_row, base_row, function_type, coroutine_type, instance_type, Setting, IsRow, Is}

-- a variable in scope, with the row of its type
pub record Bound : Type 0 where
  pub name : ℕ
  pub row : ℕ

-- the variables in scope, innermost first
abbrev pub Scope : Type 0
Scope = List Bound

abbrev pub bind : ℕ → ℕ → Scope → Scope
bind x A Γ = record { name = x; row = A } ∷ Γ

-- the row of a name: its innermost binder counts
abbrev pub look : Scope → ℕ → Option ℕ
look [] n = None
look (b ∷ Γ) n = cond (n == b.name) (Some b.row) (look Γ n)

-- every name in scope has a row of the table
pub record InScope (S : Setting) (Γ : Scope) : Type 0 where
  pub is_row : (n T : ℕ) → look Γ n ≡ Some T → IsRow S T

-- The yield type W may be read as Y: they are the same, or W is ⊥ and Y is a row of the table.
pub data Reads (S : Setting) (W Y : ℕ) : Type 0 where
  as_is : W ≡ Y → Reads S W Y
  raised : W ≡ bottom_row → IsRow S Y → Reads S W Y

-- Typed S Σ Γ t T Y: where the bindings have the rows Σ and the scope is Γ, the term t has type T and yield type Y.
pub data Typed (S : Setting) (Σ : List ℕ) : Scope → Term → ℕ → ℕ → Type 0 where
  -- yield type ⊥ may be read as any other
  t_any_yield : {Γ : Scope} {t : Term} {T Y : ℕ} → IsRow S Y → Typed S Σ Γ t T bottom_row → Typed S Σ Γ t T Y
  t_unit : {Γ : Scope} → Typed S Σ Γ unit unit_row bottom_row
  -- a variable has its binder's type
  t_variable : {Γ : Scope} {n T : ℕ} → look Γ n ≡ Some T → Typed S Σ Γ (variable n) T bottom_row
  -- a function does not yield
  t_abstraction :
      {Γ : Scope} {x r A B : ℕ} {b : Term} → Is S r (function_type A B) → Typed S Σ (bind x A Γ) b B bottom_row →
      Typed S Σ Γ (abstraction x r b) r bottom_row
  -- a coroutine's body yields at its row's yield type, or ⊥, by t_any_yield
  t_coroutine :
      {Γ : Scope} {x r A W B : ℕ} {b : Term} → Is S r (coroutine_type A W B) → Typed S Σ (bind x A Γ) b B W →
      Typed S Σ Γ (coroutine x r b) r bottom_row
  -- the yield types of the parts join
  t_apply :
      {Γ : Scope} {f a : Term} {r A B Y : ℕ} → Is S r (function_type A B) → Typed S Σ Γ f r Y → Typed S Σ Γ a A Y →
      Typed S Σ Γ (application f a) B Y
  -- each part yields at the coroutine's yield type, or ⊥, by t_any_yield; the coroutine's yield type is that of the whole
  t_apply_coroutine :
      {Γ : Scope} {f a : Term} {r A B Y : ℕ} → Is S r (coroutine_type A Y B) → Typed S Σ Γ f r Y → Typed S Σ Γ a A Y →
      Typed S Σ Γ (application f a) B Y
  -- what is offered has the yield type
  t_yield : {Γ : Scope} {t : Term} {T : ℕ} → Typed S Σ Γ t T T → Typed S Σ Γ (yield t) unit_row T
  -- a start's row has the coroutine's yield type and result
  t_start :
      {Γ : Scope} {f a : Term} {i r A W B Y : ℕ} → Is S i (instance_type W B) → Is S r (coroutine_type A W B) → Typed S Σ Γ f r Y →
      Typed S Σ Γ a A Y → Typed S Σ Γ (start i f a) i Y
  -- the handlers are coroutines from the instance's result, from what it yields and from Unit, with one yield type and one result
  t_resume :
      {Γ : Scope} {a b c d : Term} {i r₂ r₃ r₄ W B R Y : ℕ} → Is S i (instance_type W B) → Is S r₂ (coroutine_type B Y R) →
      Is S r₃ (coroutine_type W Y R) → Is S r₄ (coroutine_type unit_row Y R) → Typed S Σ Γ a i Y → Typed S Σ Γ b r₂ Y → Typed S Σ Γ c r₃ Y →
      Typed S Σ Γ d r₄ Y → Typed S Σ Γ (resume a b c d) R Y
  t_snapshot :
      {Γ : Scope} {t : Term} {i W B Y : ℕ} → Is S i (instance_type W B) → Typed S Σ Γ t i Y → Typed S Σ Γ (snapshot t) i Y
  -- of a function from T to T
  t_fix : {Γ : Scope} {t : Term} {r T : ℕ} → Is S r (function_type T T) → Typed S Σ Γ t r bottom_row → Typed S Σ Γ (fix t) T bottom_row
  -- the base is one of the set, and holds the payload
  t_atom :
      {Γ : Scope} {k p : ℕ} → k < S.set.bases → S.set.holds k p ≡ true → Typed S Σ Γ (atom k p) (base_row k) bottom_row
  t_operation :
      {Γ : Scope} {o Y : ℕ} {a b : Term} {s : Signature} → S.set.signature o ≡ Some s →
      Typed S Σ Γ a (base_row s.first) Y → Typed S Σ Γ b (base_row s.second) Y →
      Typed S Σ Γ (operation o a b) (base_row s.result) Y
  -- an instance has its binding's row
  t_instance :
      {Γ : Scope} {l r W B : ℕ} → at Σ l ≡ Some r → Is S r (instance_type W B) → Typed S Σ Γ (instance l r) r bottom_row
  -- as a resume of the label's instance; its body has the binding's result type and yield type
  t_resumption :
      {Γ : Scope} {l : ℕ} {a b c d : Term} {i r₂ r₃ r₄ W B R Y : ℕ} → at Σ l ≡ Some i → Is S i (instance_type W B) →
      Is S r₂ (coroutine_type B Y R) → Is S r₃ (coroutine_type W Y R) → Is S r₄ (coroutine_type unit_row Y R) →
      Typed S Σ Γ a B W → Typed S Σ Γ b r₂ Y → Typed S Σ Γ c r₃ Y → Typed S Σ Γ d r₄ Y → Typed S Σ Γ (resumption l a b c d) R Y
  -- the yield type is the type of the pending value
  t_suspension :
      {Γ : Scope} {t v : Term} {T Y : ℕ} → Value v → Typed S Σ Γ t T Y → Typed S Σ Γ v Y bottom_row →
      Typed S Σ Γ (suspension t v) T Y
