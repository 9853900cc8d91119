-- What the pieces of the judgement say where they give an answer.
use Rattle.std.proofs.Common.{◌≡◌, ℕ, Bool, true, false, cond, ◌&&◌, ◌||◌, eqb, Some, None, Option, refl, arith}
use Rattle.calculus.specs.Lists.{at}
use Rattle.calculus.specs.Rows.{Row, unit_type, bottom_type, base_type, function_type, coroutine_type, instance_type, Setting, IsRow, Is}
use Rattle.calculus.specs.Typing.{Scope, bind, look, InScope, Reads, as_is, raised}
use Rattle.calculus.specs.Judgement.{and_then, only_if, as_function, as_coroutine, as_instance, function_at, coroutine_at, instance_at, reads, join}
use Rattle.calculus.proofs.Tests.{never, same}

pub none_some : {A B : Type 0} {x : A} → None ≡ Some x → B
none_some e = let z : ◌≡◌ {A = ℕ} 0 1 = cc in absurd (omega arith)

pub then_inv : {A B : Type 0} (o : Option A) (f : A → Option B) {x : B} → and_then o f ≡ Some x → (a : A) × (o ≡ Some a) × (f a ≡ Some x)
then_inv None f e = none_some e
then_inv (Some a) f e = (a, refl, e)

pub only_inv : {A : Type 0} (b : Bool) (o : Option A) {x : A} → only_if b o ≡ Some x → (b ≡ true) × (o ≡ Some x)
only_inv true o e = (refl, e)
only_inv false o e = none_some e

module _ {R : Type 0} where
  pub then_by : {A B : Type 0} (o : Option A) (f : A → Option B) {x : B} → and_then o f ≡ Some x →
      ((a : A) → o ≡ Some a → f a ≡ Some x → R) → R
  then_by None f e k = none_some e
  then_by (Some a) f e k = k a refl e

  pub only_by : {A : Type 0} (b : Bool) (o : Option A) {x : A} → only_if b o ≡ Some x → (b ≡ true → o ≡ Some x → R) → R
  only_by true o e k = k refl e
  only_by false o e k = none_some e

  pub and_by : (a b : Bool) → (a && b) ≡ true → (a ≡ true → b ≡ true → R) → R
  and_by true b e k = k refl e
  and_by false b e k = never e

pub and_inv : (a b : Bool) → (a && b) ≡ true → (a ≡ true) × (b ≡ true)
and_inv true b e = (refl, e)
and_inv false b e = never e

pub function_inv : (S : Setting) (r : ℕ) {p : ℕ × ℕ} → function_at S r ≡ Some p → Is S r (function_type p.0 p.1)
function_inv S r {p} e = let k = then_inv (at S.table r) as_function e in go k.0 k.1 k.2
  where
    go : (ty : Row) → Is S r ty → as_function ty ≡ Some p → Is S r (function_type p.0 p.1)
    go unit_type h q = none_some q
    go bottom_type h q = none_some q
    go (base_type k) h q = none_some q
    go (function_type A B) h q = let z : ◌≡◌ {A = ℕ × ℕ} (A, B) p = cc in rw (← z) h
    go (coroutine_type A W B) h q = none_some q
    go (instance_type W B) h q = none_some q

pub coroutine_inv : (S : Setting) (r : ℕ) {p : ℕ × ℕ × ℕ} → coroutine_at S r ≡ Some p → Is S r (coroutine_type p.0 p.1 p.2)
coroutine_inv S r {p} e = let k = then_inv (at S.table r) as_coroutine e in go k.0 k.1 k.2
  where
    go : (ty : Row) → Is S r ty → as_coroutine ty ≡ Some p → Is S r (coroutine_type p.0 p.1 p.2)
    go unit_type h q = none_some q
    go bottom_type h q = none_some q
    go (base_type k) h q = none_some q
    go (function_type A B) h q = none_some q
    go (coroutine_type A W B) h q = let z : ◌≡◌ {A = ℕ × ℕ × ℕ} (A, W, B) p = cc in rw (← z) h
    go (instance_type W B) h q = none_some q

pub instance_inv : (S : Setting) (r : ℕ) {p : ℕ × ℕ} → instance_at S r ≡ Some p → Is S r (instance_type p.0 p.1)
instance_inv S r {p} e = let k = then_inv (at S.table r) as_instance e in go k.0 k.1 k.2
  where
    go : (ty : Row) → Is S r ty → as_instance ty ≡ Some p → Is S r (instance_type p.0 p.1)
    go unit_type h q = none_some q
    go bottom_type h q = none_some q
    go (base_type k) h q = none_some q
    go (function_type A B) h q = none_some q
    go (coroutine_type A W B) h q = none_some q
    go (instance_type W B) h q = let z : ◌≡◌ {A = ℕ × ℕ} (W, B) p = cc in rw (← z) h

pub reads_inv : {S : Setting} (V Y : ℕ) → IsRow S Y → reads V Y ≡ true → Reads S V Y
reads_inv {S} V Y y = go (eqb V Y) refl
  where
    go : (b : Bool) → eqb V Y ≡ b → (b || eqb V 1) ≡ true → Reads S V Y
    go true e h = as_is (same V Y e)
    go false e h = raised (same V 1 h) y

pub join_inv : {S : Setting} (V W : ℕ) {X : ℕ} → IsRow S V → IsRow S W → join V W ≡ Some X → Reads S V X × Reads S W X
join_inv {S} V W {X} v w = go (reads V W) refl
  where
    go : (b : Bool) → reads V W ≡ b → cond b (Some W) (only_if (reads W V) (Some V)) ≡ Some X → Reads S V X × Reads S W X
    go true e h = let z : W ≡ X = cc in (rw (← z) (reads_inv V W w e), as_is z)
    go false e h = let k = only_inv (reads W V) (Some V) h in let z : V ≡ X = cc k.1 in (as_is z, rw (← z) (reads_inv W V v k.0))

pub in_bind : {S : Setting} {Γ : Scope} (x : ℕ) {A : ℕ} → IsRow S A → InScope S Γ → InScope S (bind x A Γ)
in_bind {S} {Γ} x {A} a g = record { is_row = λ n T. go n T (eqb n x) }
  where
    go : (n T : ℕ) (b : Bool) → cond b (Some A) (look Γ n) ≡ Some T → IsRow S T
    go n T true e = let z : A ≡ T = cc in rw (← z) a
    go n T false e = g.is_row n T e
