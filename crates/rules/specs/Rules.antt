-- The rule of each kind: what a term has, by what its parts have, or the fault at its place.
use Rattle.std.specs.Prelude.{ℕ, ◌+◌, ◌/◌, ◌%◌, ◌^◌, Bool, false, cond, ◌&&◌, ◌||◌, List, [], ◌∷◌, Some, None, Ok, Err, Option, Result, ◌==◌, nat_lt, slice_index_or}
use Rattle.faults.specs.declared.Fault.{Fault}
use Rattle.faults.specs.declared.numbers.FaultNumber.{FaultNumber}
use Rattle.faults.specs.declared.numbers.FaultNumber.TheVariants.{Scope, Quantity, Types, YieldType}
use Rattle.faults.specs.Faults.{fault_of}
use Rattle.quantities.specs.declared.Signature.{Signature}
use Rattle.quantities.specs.Meaning.{Meaning}
use Rattle.rules.specs.declared.model.Judged.{Judged}
use Rattle.rules.specs.declared.model.Variable.{Variable}
use Rattle.rules.specs.declared.model.Shape.{Shape}
use Rattle.rules.specs.Table.{shape_at, on_function, on_coroutine, on_instance}

abbrev pub Verdict : Type 0
Verdict = Result Judged Fault

-- type row T and yield row Y
abbrev pub accepted : ℕ → ℕ → Verdict
accepted T Y = Ok (record { row = T; yields = Y })

-- a fault at place i
unfoldable pub refused : FaultNumber → ℕ → Verdict
refused n i = Err (fault_of n i)

-- whether yield row W is Y or ⊥
abbrev pub may_read : ℕ → ℕ → Bool
may_read W Y = W == Y || W == 1

-- type row T and the join of two yield rows
abbrev pub joining : ℕ → ℕ → ℕ → ℕ → Verdict
joining i T V W = cond (may_read V W) (accepted T W) (cond (may_read W V) (accepted T V) (refused YieldType i))

-- the row of a name: its innermost binder counts
abbrev pub look : List Variable → ℕ → Option ℕ
look [] n = None
look (b ∷ Γ) n = cond (n == b.name) (Some b.row) (look Γ n)

abbrev pub unit_rule : Verdict
unit_rule = accepted 0 1

-- a variable, by what its name was found to have
abbrev pub variable_rule : ℕ → Option ℕ → Verdict
variable_rule i None = refused Scope i
variable_rule i (Some T) = accepted T 1

-- an abstraction of row r, by its body
abbrev pub abstraction_rule : List ℕ → ℕ → ℕ → Judged → Verdict
abstraction_rule rows i r j =
    on_function (shape_at rows r) (refused Types i) λ a b.
    cond (j.row == b) (cond (j.yields == 1) (accepted r 1) (refused YieldType i)) (refused Types i)

-- a coroutine of row r, by its body
abbrev pub coroutine_rule : List ℕ → ℕ → ℕ → Judged → Verdict
coroutine_rule rows i r j =
    on_coroutine (shape_at rows r) (refused Types i) λ a w b.
    cond (j.row == b) (cond (may_read j.yields w) (accepted r 1) (refused YieldType i)) (refused Types i)

-- an application, by what stands at the row of its first part
abbrev pub applied : Shape → ℕ → Judged → Judged → Verdict
applied s i j k =
    on_function s
    (on_coroutine s (refused Types i) λ a w b.
    cond (k.row == a) (cond (may_read j.yields w && may_read k.yields w) (accepted b w) (refused YieldType i)) (refused Types i))
    (λ a b. cond (k.row == a) (joining i b j.yields k.yields) (refused Types i))

abbrev pub application_rule : List ℕ → ℕ → Judged → Judged → Verdict
application_rule rows i j k = applied (shape_at rows j.row) i j k

abbrev pub yield_rule : ℕ → Judged → Verdict
yield_rule i j = cond (may_read j.yields j.row) (accepted 0 j.row) (refused YieldType i)

-- a start of row r
abbrev pub start_rule : List ℕ → ℕ → ℕ → Judged → Judged → Verdict
start_rule rows i r j k =
    on_instance (shape_at rows r) (refused Types i) λ y c.
    on_coroutine (shape_at rows j.row) (refused Types i) λ a w b.
    cond (k.row == a && (w == y && b == c)) (joining i r j.yields k.yields) (refused Types i)

-- whether each of four yield rows is w or ⊥
abbrev pub all_may_read : ℕ → Judged → Judged → Judged → Judged → Bool
all_may_read w j₁ j₂ j₃ j₄ = may_read j₁.yields w && (may_read j₂.yields w && (may_read j₃.yields w && may_read j₄.yields w))

-- whether a part has a coroutine type with this argument, yield type and result
abbrev pub is_coroutine : List ℕ → Judged → ℕ → ℕ → ℕ → Bool
is_coroutine rows j A W B = on_coroutine (shape_at rows j.row) false λ a w b. (a == A) && (w == W && b == B)

-- the instance, and the handlers of its result, of what it yields and of unit
abbrev pub resume_rule : List ℕ → ℕ → Judged → Judged → Judged → Judged → Verdict
resume_rule rows i j₁ j₂ j₃ j₄ =
    on_instance (shape_at rows j₁.row) (refused Types i) λ y c.
    on_coroutine (shape_at rows j₂.row) (refused Types i) λ a w b.
    cond (a == c && (is_coroutine rows j₃ y w b && is_coroutine rows j₄ 0 w b))
    (cond (all_may_read w j₁ j₂ j₃ j₄) (accepted b w) (refused YieldType i))
    (refused Types i)

abbrev pub snapshot_rule : List ℕ → ℕ → Judged → Verdict
snapshot_rule rows i j = on_instance (shape_at rows j.row) (refused Types i) λ y c. Ok j

abbrev pub fix_rule : List ℕ → ℕ → Judged → Verdict
fix_rule rows i j =
    on_function (shape_at rows j.row) (refused Types i) λ a b.
    cond (a == b) (cond (j.yields == 1) (accepted b 1) (refused YieldType i)) (refused Types i)

-- an atom of base k with payload p
abbrev pub atom_rule : Meaning → ℕ → ℕ → ℕ → Verdict
atom_rule m i k p = cond (nat_lt k m.bases && m.holds k p) (accepted (k + 2) 1) (refused Quantity i)

-- an operation, by its signature
abbrev pub operation_rule : ℕ → Option Signature → Judged → Judged → Verdict
operation_rule i None j k = refused Quantity i
operation_rule i (Some s) j k =
    cond (j.row == s.first + 2 && k.row == s.second + 2) (joining i (s.result + 2) j.yields k.yields) (refused Types i)

-- the rules by the number of the kind: of a word at place i, whose parts have the judgements j₁ to j₄, as far as it has parts
abbrev pub rules : Meaning → List ℕ → List Variable → ℕ → ℕ → Judged → Judged → Judged → Judged → List Verdict
rules m rows Γ word i j₁ j₂ j₃ j₄ =
    unit_rule
    ∷ variable_rule i (look Γ (word % 2 ^ 12))
    ∷ abstraction_rule rows i (word / 2 ^ 12 % 2 ^ 9) j₁
    ∷ coroutine_rule rows i (word / 2 ^ 12 % 2 ^ 9) j₁
    ∷ application_rule rows i j₁ j₂
    ∷ yield_rule i j₁
    ∷ start_rule rows i (word / 2 ^ 12 % 2 ^ 9) j₁ j₂
    ∷ resume_rule rows i j₁ j₂ j₃ j₄
    ∷ snapshot_rule rows i j₁
    ∷ fix_rule rows i j₁
    ∷ atom_rule m i (word / 2 ^ 24 % 2 ^ 3) (word % 2 ^ 24)
    ∷ operation_rule i (m.signature (word % 2 ^ 8)) j₁ j₂
    ∷ []

-- the rule of a word, by its kind; a word of another kind has no type
abbrev pub rule : Meaning → List ℕ → List Variable → ℕ → ℕ → Judged → Judged → Judged → Judged → Verdict
rule m rows Γ word i j₁ j₂ j₃ j₄ = slice_index_or (rules m rows Γ word i j₁ j₂ j₃ j₄) (word / 2 ^ 27) (refused Types i)
