-- The verdict on a term at a place: its parts are judged from left to right, the first fault counts, and then the rule of its kind.
use Rattle.std.specs.Prelude.{ℕ, ◌+◌, List, ◌∷◌, Ok, Err, Result}
use Rattle.faults.specs.declared.Fault.{Fault}
use Rattle.faults.specs.declared.numbers.FaultNumber.TheVariants.{Types}
use Rattle.quantities.specs.Meaning.{Meaning}
use Rattle.rules.specs.declared.model.Variable.{Variable}
use Rattle.rules.specs.Table.{shape_at, argument_of}
use Rattle.rules.specs.Rules.{Verdict, refused, look, unit_rule, variable_rule, abstraction_rule, coroutine_rule, application_rule, yield_rule, start_rule, resume_rule, snapshot_rule, fix_rule, atom_rule, operation_rule}
use Rattle.calculus.specs.Terms.{Term, unit, variable, abstraction, coroutine, application, yield, start, resume, snapshot, fix, atom, operation, instance, resumption, suspension}
use Rattle.calculus.specs.Parts.{size}

-- with a judgement, go on
abbrev pub after : {A B : Type 0} → Result A Fault → (A → Result B Fault) → Result B Fault
after (Ok a) f = f a
after (Err e) f = Err e

-- the scope in the body of a binder of name x and row r
abbrev pub bound : List ℕ → ℕ → ℕ → List Variable → List Variable
bound rows x r Γ = record { name = x; row = argument_of (shape_at rows r) } ∷ Γ

-- of a term at place i under the scope Γ; `rows` are the words of the type table
abbrev pub verdict : Meaning → List ℕ → List Variable → ℕ → Term → Verdict
verdict m rows Γ i unit = unit_rule
verdict m rows Γ i (variable x) = variable_rule i (look Γ x)
verdict m rows Γ i (abstraction x r b) = after (verdict m rows (bound rows x r Γ) (i + 1) b) λ j. abstraction_rule rows i r j
verdict m rows Γ i (coroutine x r b) = after (verdict m rows (bound rows x r Γ) (i + 1) b) λ j. coroutine_rule rows i r j
verdict m rows Γ i (application f a) =
    after (verdict m rows Γ (i + 1) f) λ j. after (verdict m rows Γ (i + 1 + size f) a) λ k. application_rule rows i j k
verdict m rows Γ i (yield a) = after (verdict m rows Γ (i + 1) a) λ j. yield_rule i j
verdict m rows Γ i (start r f a) =
    after (verdict m rows Γ (i + 1) f) λ j. after (verdict m rows Γ (i + 1 + size f) a) λ k. start_rule rows i r j k
verdict m rows Γ i (resume a b c d) =
    after (verdict m rows Γ (i + 1) a) λ j₁.
    after (verdict m rows Γ (i + 1 + size a) b) λ j₂.
    after (verdict m rows Γ (i + 1 + size a + size b) c) λ j₃.
    after (verdict m rows Γ (i + 1 + size a + size b + size c) d) λ j₄. resume_rule rows i j₁ j₂ j₃ j₄
verdict m rows Γ i (snapshot a) = after (verdict m rows Γ (i + 1) a) λ j. snapshot_rule rows i j
verdict m rows Γ i (fix a) = after (verdict m rows Γ (i + 1) a) λ j. fix_rule rows i j
verdict m rows Γ i (atom k p) = atom_rule m i k p
verdict m rows Γ i (operation o a b) =
    after (verdict m rows Γ (i + 1) a) λ j. after (verdict m rows Γ (i + 1 + size a) b) λ k. operation_rule i (m.signature o) j k
-- no program term is of the kinds that follow
verdict m rows Γ i (instance l r) = refused Types i
verdict m rows Γ i (resumption l a b c d) =
    after (verdict m rows Γ (i + 1) a) λ j₁.
    after (verdict m rows Γ (i + 1 + size a) b) λ j₂.
    after (verdict m rows Γ (i + 1 + size a + size b) c) λ j₃.
    after (verdict m rows Γ (i + 1 + size a + size b + size c) d) λ j₄. refused Types i
verdict m rows Γ i (suspension a b) =
    after (verdict m rows Γ (i + 1) a) λ j. after (verdict m rows Γ (i + 1 + size a) b) λ k. refused Types i
