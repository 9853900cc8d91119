-- The typing rules as a judgement that can be computed: the type of a term and its least yield type, if it has any.
use Rattle.std.specs.Prelude.{ℕ, Bool, cond, ◌&&◌, ◌||◌, List, Some, None, Option, ◌==◌, nat_lt}
use Rattle.calculus.specs.Lists.{at}
use Rattle.calculus.specs.Terms.{Term, unit, variable, abstraction, coroutine, application, yield, start, resume, snapshot, fix, atom, operation, instance, resumption, suspension, is_value}
use Rattle.calculus.specs.Rows.{Row, unit_type, bottom_type, base_type, function_type, coroutine_type, instance_type, unit_row, bottom_row, base_row, Setting}
use Rattle.calculus.specs.Typing.{Scope, bind, look}

-- what is judged of a term: its type and its least yield type
pub record Judgement : Type 0 where
  pub type : ℕ
  pub yields : ℕ

abbrev pub judged : ℕ → ℕ → Option Judgement
judged T Y = Some (record { type = T; yields = Y })

-- with an answer, go on
abbrev pub and_then : {A B : Type 0} → Option A → (A → Option B) → Option B
and_then None f = None
and_then (Some a) f = f a

-- the answer, if a test passes
abbrev pub only_if : {A : Type 0} → Bool → Option A → Option A
only_if b o = cond b o None

-- argument and result of a function type
abbrev pub as_function : Row → Option (ℕ × ℕ)
as_function unit_type = None
as_function bottom_type = None
as_function (base_type k) = None
as_function (function_type A B) = Some (A, B)
as_function (coroutine_type A W B) = None
as_function (instance_type W B) = None

-- argument, yield type and result of a coroutine type
abbrev pub as_coroutine : Row → Option (ℕ × ℕ × ℕ)
as_coroutine unit_type = None
as_coroutine bottom_type = None
as_coroutine (base_type k) = None
as_coroutine (function_type A B) = None
as_coroutine (coroutine_type A W B) = Some (A, W, B)
as_coroutine (instance_type W B) = None

-- yield type and result of an instance type
abbrev pub as_instance : Row → Option (ℕ × ℕ)
as_instance unit_type = None
as_instance bottom_type = None
as_instance (base_type k) = None
as_instance (function_type A B) = None
as_instance (coroutine_type A W B) = None
as_instance (instance_type W B) = Some (W, B)

-- the same, of a row of the table
abbrev pub function_at : Setting → ℕ → Option (ℕ × ℕ)
function_at S r = and_then (at S.table r) as_function

abbrev pub coroutine_at : Setting → ℕ → Option (ℕ × ℕ × ℕ)
coroutine_at S r = and_then (at S.table r) as_coroutine

abbrev pub instance_at : Setting → ℕ → Option (ℕ × ℕ)
instance_at S r = and_then (at S.table r) as_instance

-- whether the yield type W is Y or ⊥
abbrev pub reads : ℕ → ℕ → Bool
reads W Y = W == Y || W == bottom_row

-- yield types join when they are equal or one is ⊥; the other is then the result
abbrev pub join : ℕ → ℕ → Option ℕ
join V W = cond (reads V W) (Some W) (only_if (reads W V) (Some V))

-- an application, by the type of its first part
abbrev pub applying : Row → Judgement → Judgement → Option Judgement
applying unit_type j k = None
applying bottom_type j k = None
applying (base_type b) j k = None
applying (function_type A B) j k = only_if (k.type == A) (and_then (join j.yields k.yields) (λ Y. judged B Y))
applying (coroutine_type A W B) j k = only_if (k.type == A && reads j.yields W && reads k.yields W) (judged B W)
applying (instance_type W B) j k = None

-- the handlers of an instance of yield type W and result type B: coroutines from B, from W and from Unit, alike but for that
abbrev pub handled : Setting → ℕ → ℕ → Judgement → Judgement → Judgement → Option Judgement
handled S W B j₂ j₃ j₄ =
    and_then (coroutine_at S j₂.type) λ q₂.
    and_then (coroutine_at S j₃.type) λ q₃.
    and_then (coroutine_at S j₄.type) λ q₄.
    only_if (q₂.0 == B && q₃.0 == W && q₄.0 == unit_row)
    (only_if (q₃.1 == q₂.1 && q₄.1 == q₂.1 && q₃.2 == q₂.2 && q₄.2 == q₂.2)
    (only_if (reads j₂.yields q₂.1 && reads j₃.yields q₂.1 && reads j₄.yields q₂.1) (judged q₂.2 q₂.1)))

-- The judgement, a line for each rule.
unfoldable pub judge : Setting → List ℕ → Scope → Term → Option Judgement
judge S Σ Γ unit = judged unit_row bottom_row
judge S Σ Γ (variable n) = and_then (look Γ n) λ T. judged T bottom_row
judge S Σ Γ (abstraction x r b) =
    and_then (function_at S r) λ p.
    and_then (judge S Σ (bind x p.0 Γ) b) λ j. only_if (j.type == p.1 && j.yields == bottom_row) (judged r bottom_row)
judge S Σ Γ (coroutine x r b) =
    and_then (coroutine_at S r) λ p.
    and_then (judge S Σ (bind x p.0 Γ) b) λ j. only_if (j.type == p.2 && reads j.yields p.1) (judged r bottom_row)
judge S Σ Γ (application f a) =
    and_then (judge S Σ Γ f) λ j. and_then (judge S Σ Γ a) λ k. and_then (at S.table j.type) λ ty. applying ty j k
judge S Σ Γ (yield t) = and_then (judge S Σ Γ t) λ j. only_if (reads j.yields j.type) (judged unit_row j.type)
judge S Σ Γ (start i f a) =
    and_then (instance_at S i) λ p.
    and_then (judge S Σ Γ f) λ j.
    and_then (judge S Σ Γ a) λ k.
    and_then (coroutine_at S j.type) λ q.
    only_if (k.type == q.0 && q.1 == p.0 && q.2 == p.1)
    (and_then (join j.yields k.yields) λ Y. judged i Y)
judge S Σ Γ (resume a b c d) =
    and_then (judge S Σ Γ a) λ j₁.
    and_then (judge S Σ Γ b) λ j₂.
    and_then (judge S Σ Γ c) λ j₃.
    and_then (judge S Σ Γ d) λ j₄.
    and_then (instance_at S j₁.type) λ p.
    and_then (handled S p.0 p.1 j₂ j₃ j₄) λ h. only_if (reads j₁.yields h.yields) (Some h)
judge S Σ Γ (snapshot t) = and_then (judge S Σ Γ t) λ j. and_then (instance_at S j.type) λ p. Some j
judge S Σ Γ (fix t) =
    and_then (judge S Σ Γ t) λ j.
    and_then (function_at S j.type) λ p. only_if (p.0 == p.1 && j.yields == bottom_row) (judged p.1 bottom_row)
judge S Σ Γ (atom k p) = only_if (nat_lt k S.set.bases && S.set.holds k p) (judged (base_row k) bottom_row)
judge S Σ Γ (operation o a b) =
    and_then (S.set.signature o) λ s.
    and_then (judge S Σ Γ a) λ j.
    and_then (judge S Σ Γ b) λ k.
    only_if (j.type == base_row s.first && k.type == base_row s.second)
    (and_then (join j.yields k.yields) λ Y. judged (base_row s.result) Y)
judge S Σ Γ (instance l r) = and_then (at Σ l) λ i. and_then (instance_at S r) λ p. only_if (i == r) (judged r bottom_row)
judge S Σ Γ (resumption l a b c d) =
    and_then (at Σ l) λ i.
    and_then (instance_at S i) λ p.
    and_then (judge S Σ Γ a) λ j₁.
    and_then (judge S Σ Γ b) λ j₂.
    and_then (judge S Σ Γ c) λ j₃.
    and_then (judge S Σ Γ d) λ j₄.
    only_if (j₁.type == p.1 && reads j₁.yields p.0) (handled S p.0 p.1 j₂ j₃ j₄)
judge S Σ Γ (suspension t v) =
    and_then (judge S Σ Γ t) λ j.
    and_then (judge S Σ Γ v) λ k.
    only_if (is_value v && k.yields == bottom_row && reads j.yields k.type) (judged j.type k.type)
