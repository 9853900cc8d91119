-- Where a fault is and why, said by types alone.
use Rattle.std.specs.Prelude.{◌≡◌, ℕ, suc, ◌+◌, ◌<◌, ◌≤◌, true, ◌↔◌, List, [], ◌∷◌, ◌++◌, Some, None, Option, ◌≢◌}
use Rattle.std.specs.List.{AllByRecursion}
use Rattle.faults.specs.declared.Fault.{Fault}
use Rattle.faults.specs.declared.numbers.FaultNumber.{FaultNumber}
use Rattle.faults.specs.declared.numbers.FaultNumber.TheVariants.{Scope as OfScope, Quantity, Types, YieldType}
use Rattle.calculus.specs.Lists.{at}
use Rattle.calculus.specs.Terms.{Term, unit, variable, abstraction, coroutine, application, yield, start, resume, snapshot, fix, atom, operation, instance, resumption, suspension}
use Rattle.calculus.specs.Parts.{parts, with_parts, sizes}
use Rattle.calculus.specs.Rows.{Row, unit_type, bottom_type, base_type, function_type, coroutine_type, instance_type, Setting}
use Rattle.calculus.specs.Typing.{Scope, bind, look, Typed}
use Rattle.judging.specs.Answers.{HasType}

-- the argument of a function or coroutine type; Unit's row for any other
abbrev pub argument_in : Option Row → ℕ
argument_in None = 0
argument_in (Some unit_type) = 0
argument_in (Some bottom_type) = 0
argument_in (Some (base_type k)) = 0
argument_in (Some (function_type A B)) = A
argument_in (Some (coroutine_type A W B)) = A
argument_in (Some (instance_type W B)) = 0

-- the scope of the parts of a term: a binder's name has the argument type of the binder's row
abbrev pub inner : Setting → Term → Scope → Scope
inner S unit Γ = Γ
inner S (variable x) Γ = Γ
inner S (abstraction x r b) Γ = bind x (argument_in (at S.table r)) Γ
inner S (coroutine x r b) Γ = bind x (argument_in (at S.table r)) Γ
inner S (application f a) Γ = Γ
inner S (yield a) Γ = Γ
inner S (start r f a) Γ = Γ
inner S (resume a b c d) Γ = Γ
inner S (snapshot a) Γ = Γ
inner S (fix a) Γ = Γ
inner S (atom k p) Γ = Γ
inner S (operation o a b) Γ = Γ
inner S (instance l r) Γ = Γ
inner S (resumption l a b c d) Γ = Γ
inner S (suspension a b) Γ = Γ

-- Inside S Γ i t Δ p u: in the term t, at place i under the scope Γ, stands u at place p under the scope Δ.
-- A term's own word comes first, and then the words of its parts in order.
pub data Inside (S : Setting) : Scope → ℕ → Term → Scope → ℕ → Term → Type 0 where
  here : {Γ : Scope} {i : ℕ} {t : Term} → Inside S Γ i t Γ i t
  part :
      {Γ Δ : Scope} {i p : ℕ} {t u : Term} (before : List Term) (q : Term) (later : List Term) → parts t ≡ before ++ (q ∷ later) →
      Inside S (inner S t Γ) (i + 1 + sizes before) q Δ p u → Inside S Γ i t Δ p u

-- a term without a type, though all its parts have one
pub record Untyped (S : Setting) (Γ : Scope) (t : Term) : Type 0 where
  pub lacks : HasType S Γ t → ⊥
  pub parts_have : AllByRecursion (λ q. HasType S (inner S t Γ) q) (parts t)

-- a variable that is not in scope
pub data OutOfScope (Γ : Scope) : Term → Type 0 where
  unbound : {x : ℕ} → look Γ x ≡ None → OutOfScope Γ (variable x)

-- an atom that is not in its base, or an operation without a signature
pub data OutOfSet (S : Setting) : Term → Type 0 where
  not_held : {k p : ℕ} → (k < S.set.bases → S.set.holds k p ≢ true) → OutOfSet S (atom k p)
  no_signature : {o : ℕ} {a b : Term} → S.set.signature o ≡ None → OutOfSet S (operation o a b)

-- the terms have these types
abbrev pub HaveTypes : Setting → Scope → List Term → List ℕ → Type 0
HaveTypes S Γ [] [] = Unit {0}
HaveTypes S Γ [] (T ∷ Ts) = ⊥
HaveTypes S Γ (t ∷ ts) [] = ⊥
HaveTypes S Γ (t ∷ ts) (T ∷ Ts) = ((Y : ℕ) × Typed S [] Γ t T Y) × HaveTypes S Γ ts Ts

-- a name that the term does not bind
abbrev pub spare : Term → ℕ
spare unit = 0
spare (variable x) = 0
spare (abstraction x r b) = suc x
spare (coroutine x r b) = suc x
spare (application f a) = 0
spare (yield a) = 0
spare (start r f a) = 0
spare (resume a b c d) = 0
spare (snapshot a) = 0
spare (fix a) = 0
spare (atom k p) = 0
spare (operation o a b) = 0
spare (instance l r) = 0
spare (resumption l a b c d) = 0
spare (suspension a b) = 0

-- variables from name n on, one for each type, and the scope that has them
abbrev pub variables : ℕ → List ℕ → List Term
variables n [] = []
variables n (T ∷ Ts) = variable n ∷ variables (suc n) Ts

abbrev pub bind_all : ℕ → List ℕ → Scope → Scope
bind_all n [] Γ = Γ
bind_all n (T ∷ Ts) Γ = bind n T (bind_all (suc n) Ts Γ)

-- The term would have a type if its parts, which have types Ts, yielded nothing: it has one with variables of these types for parts.
abbrev pub TypedWithoutYields : Setting → Scope → Term → List ℕ → Type 0
TypedWithoutYields S Γ t Ts = HasType S (bind_all (spare t) Ts Γ) (with_parts t (variables (spare t) Ts))

-- Why the term t, whose parts have types Ts, has none, by the fault's number.
pub record Reason (S : Setting) (Γ : Scope) (t : Term) (Ts : List ℕ) (n : FaultNumber) : Type 0 where
  pub scope : (n ≡ OfScope) ↔ OutOfScope Γ t
  pub quantity : (n ≡ Quantity) ↔ OutOfSet S t
  -- only the yield type of a part does not fit
  pub yield_type : (n ≡ YieldType) ↔ TypedWithoutYields S Γ t Ts
  pub otherwise : (OutOfScope Γ t → ⊥) → (OutOfSet S t → ⊥) → (TypedWithoutYields S Γ t Ts → ⊥) → n ≡ Types

-- The fault's place is that of a term without a type whose parts all have one, and no such term has a smaller place.
pub record Located (S : Setting) (i : ℕ) (t : Term) (f : Fault) : Type 0 where
  pub scope : Scope
  pub term : Term
  pub stands : Inside S [] i t scope f.place term
  pub untyped : Untyped S scope term
  pub smallest : (Δ : Scope) (p : ℕ) (u : Term) → Inside S [] i t Δ p u → Untyped S Δ u → f.place ≤ p
  -- the types of its parts, and why it has none itself
  pub types : List ℕ
  pub have : HaveTypes S (inner S term scope) (parts term) types
  pub reason : Reason S scope term types f.number
