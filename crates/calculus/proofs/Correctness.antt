-- What the check finds is so.
use Rattle.std.proofs.Common.{◌≡◌, ℕ, suc, true, ◌&&◌, T as True, eqb, ltb, List, Some, Option, sym, refl, ap, ◌∙◌, subst, arith, ltb→lt}
use Rattle.calculus.specs.Lists.{at}
use Rattle.calculus.specs.Terms.{Term, unit, variable, abstraction, coroutine, application, yield, start, resume, snapshot, fix, atom, operation, instance, resumption, suspension, is_value}
use Rattle.calculus.specs.Rows.{Row, unit_type, bottom_type, base_type, function_type, coroutine_type, instance_type, Setting, IsRow, Is, WellFormed}
use Rattle.calculus.specs.Typing.{Scope, bind, look, InScope, Typed, t_unit, t_variable, t_abstraction, t_coroutine, t_apply, t_apply_coroutine, t_yield, t_start, t_resume, t_snapshot, t_fix, t_atom, t_operation, t_instance, t_resumption, t_suspension}
use Rattle.calculus.specs.Judgement.{Judgement, judged, only_if, function_at, coroutine_at, instance_at, reads, join, applying, handled, judge}
use Rattle.calculus.proofs.Tests.{same}
use Rattle.calculus.proofs.Rows.{row, regular}
use Rattle.calculus.proofs.Frames.{retype, reyield, raise}
use Rattle.calculus.proofs.Answered.{none_some, then_inv, only_inv, then_by, only_by, and_by, and_inv, function_inv, coroutine_inv, instance_inv, reads_inv, join_inv, in_bind}

module _ {S : Setting} {Σ : List ℕ} {Γ : Scope} where
  got : {t : Term} {T Y : ℕ} {j : Judgement} → judged T Y ≡ Some j → Typed S Σ Γ t T Y → Typed S Σ Γ t j.type j.yields
  got {t} {T} {Y} {j} e d = let z : record { type = T; yields = Y } ≡ j = cc in subst (λ k. Typed S Σ Γ t k.type k.yields) z d

alike : {A B V W X Y : ℕ} → A ≡ B → V ≡ W → X ≡ Y → ◌≡◌ {A = Option Row} (Some (coroutine_type A V X)) (Some (coroutine_type B W Y))
alike e f g = cc

-- what the handlers are found to be
record Handlers (S : Setting) (Σ : List ℕ) (Γ : Scope) (W B : ℕ) (b c d : Term) (i : Judgement) (r₂ r₃ r₄ : ℕ) : Type 0 where
  yields_row : IsRow S i.yields
  second_is : Is S r₂ (coroutine_type B i.yields i.type)
  third_is : Is S r₃ (coroutine_type W i.yields i.type)
  fourth_is : Is S r₄ (coroutine_type 0 i.yields i.type)
  first : Typed S Σ Γ b r₂ i.yields
  second : Typed S Σ Γ c r₃ i.yields
  third : Typed S Σ Γ d r₄ i.yields

module _ {S : Setting} (L : WellFormed S) where
  coroutine_yield : (r : ℕ) {A W B : ℕ} → Is S r (coroutine_type A W B) → IsRow S W
  coroutine_yield r e = let b = L.table_formed.earlier _ _ e in let n = row L e in omega arith

  instance_yield : (r : ℕ) {W B : ℕ} → Is S r (instance_type W B) → IsRow S W
  instance_yield r e = let b = L.table_formed.earlier _ _ e in let n = row L e in omega arith

  function_argument : (r : ℕ) {A B : ℕ} → Is S r (function_type A B) → IsRow S A
  function_argument r e = let b = L.table_formed.earlier _ _ e in let n = row L e in omega arith

  coroutine_argument : (r : ℕ) {A W B : ℕ} → Is S r (coroutine_type A W B) → IsRow S A
  coroutine_argument r e = let b = L.table_formed.earlier _ _ e in let n = row L e in omega arith

  module _ {Σ : List ℕ} where
    found_application : {Γ : Scope} {f a : Term} → InScope S Γ → (j k i : Judgement) (ty : Row) → Is S j.type ty →
        applying ty j k ≡ Some i →
        Typed S Σ Γ f j.type j.yields → Typed S Σ Γ a k.type k.yields → Typed S Σ Γ (application f a) i.type i.yields
    found_application g j k i unit_type h e df da = none_some e
    found_application g j k i bottom_type h e df da = none_some e
    found_application g j k i (base_type b) h e df da = none_some e
    found_application g j k i (function_type A B) h e df da =
        let o = only_inv (eqb k.type A) _ e in
        let m = then_inv (join j.yields k.yields) _ o.1 in
        let r = join_inv j.yields k.yields (regular L g df).1 (regular L g da).1 m.1 in
        got m.2 (t_apply h (raise r.0 df) (raise r.1 (retype (same k.type A o.0) da)))
    found_application g j k i (coroutine_type A W B) h e df da =
        let o = only_inv (eqb k.type A && reads j.yields W && reads k.yields W) _ e in
        let p = and_inv (eqb k.type A && reads j.yields W) (reads k.yields W) o.0 in
        let q = and_inv (eqb k.type A) (reads j.yields W) p.0 in
        let w = coroutine_yield _ h in
        got o.1 (t_apply_coroutine h (raise (reads_inv j.yields W w q.1) df)
        (raise (reads_inv k.yields W w p.1) (retype (same k.type A q.0) da)))
    found_application g j k i (instance_type W B) h e df da = none_some e

    found_handled : {Γ : Scope} {b c d : Term} (W B : ℕ) (j₂ j₃ j₄ i : Judgement) → handled S W B j₂ j₃ j₄ ≡ Some i →
        Typed S Σ Γ b j₂.type j₂.yields →
        Typed S Σ Γ c j₃.type j₃.yields → Typed S Σ Γ d j₄.type j₄.yields →
        Handlers S Σ Γ W B b c d i j₂.type j₃.type j₄.type
    found_handled {Γ} {b} {c} {d} W B j₂ j₃ j₄ i e db dc dd =
        let m₂ = then_inv (coroutine_at S j₂.type) _ e in
        let m₃ = then_inv (coroutine_at S j₃.type) _ m₂.2 in
        let m₄ = then_inv (coroutine_at S j₄.type) _ m₃.2 in
        go m₂.0 m₃.0 m₄.0 (coroutine_inv S j₂.type m₂.1) (coroutine_inv S j₃.type m₃.1)
        (coroutine_inv S j₄.type m₄.1) m₄.2
      where
        go : (q₂ q₃ q₄ : ℕ × ℕ × ℕ) → Is S j₂.type (coroutine_type q₂.0 q₂.1 q₂.2) →
            Is S j₃.type (coroutine_type q₃.0 q₃.1 q₃.2) →
            Is S j₄.type (coroutine_type q₄.0 q₄.1 q₄.2) →
            only_if (eqb q₂.0 B && eqb q₃.0 W && eqb q₄.0 0)
            (only_if (eqb q₃.1 q₂.1 && eqb q₄.1 q₂.1 && eqb q₃.2 q₂.2 && eqb q₄.2 q₂.2)
            (only_if (reads j₂.yields q₂.1 && reads j₃.yields q₂.1 && reads j₄.yields q₂.1)
            (judged q₂.2 q₂.1))) ≡ Some i →
            Handlers S Σ Γ W B b c d i j₂.type j₃.type j₄.type
        go q₂ q₃ q₄ h₂ h₃ h₄ f =
            let o₁ = only_inv (eqb q₂.0 B && eqb q₃.0 W && eqb q₄.0 0) _ f in
            let o₂ = only_inv (eqb q₃.1 q₂.1 && eqb q₄.1 q₂.1 && eqb q₃.2 q₂.2 && eqb q₄.2 q₂.2) _ o₁.1 in
            let o₃ = only_inv (reads j₂.yields q₂.1 && reads j₃.yields q₂.1 && reads j₄.yields q₂.1) _ o₂.1 in
            let a₁ = and_inv (eqb q₂.0 B && eqb q₃.0 W) (eqb q₄.0 0) o₁.0 in
            let a₂ = and_inv (eqb q₂.0 B) (eqb q₃.0 W) a₁.0 in
            let b₁ = and_inv (eqb q₃.1 q₂.1 && eqb q₄.1 q₂.1 && eqb q₃.2 q₂.2) (eqb q₄.2 q₂.2) o₂.0 in
            let b₂ = and_inv (eqb q₃.1 q₂.1 && eqb q₄.1 q₂.1) (eqb q₃.2 q₂.2) b₁.0 in
            let b₃ = and_inv (eqb q₃.1 q₂.1) (eqb q₄.1 q₂.1) b₂.0 in
            let c₁ = and_inv (reads j₂.yields q₂.1 && reads j₃.yields q₂.1) (reads j₄.yields q₂.1) o₃.0 in
            let c₂ = and_inv (reads j₂.yields q₂.1) (reads j₃.yields q₂.1) c₁.0 in
            let w = coroutine_yield _ h₂ in
            let k : Handlers S Σ Γ W B b c d (record { type = q₂.2; yields = q₂.1 }) j₂.type j₃.type j₄.type =
            record {
              yields_row = w;
              second_is = h₂ ∙ alike (same q₂.0 B a₂.0) refl refl;
              third_is = h₃ ∙ alike (same q₃.0 W a₂.1) (same q₃.1 q₂.1 b₃.0) (same q₃.2 q₂.2 b₂.1);
              fourth_is = h₄ ∙ alike (same q₄.0 0 a₁.1) (same q₄.1 q₂.1 b₃.1) (same q₄.2 q₂.2 b₁.1);
              first = raise (reads_inv j₂.yields q₂.1 w c₂.0) db;
              second = raise (reads_inv j₃.yields q₂.1 w c₂.1) dc;
              third = raise (reads_inv j₄.yields q₂.1 w c₁.1) dd;
            } in
            let z : record { type = q₂.2; yields = q₂.1 } ≡ i = cc o₃.1 in
            subst (λ v. Handlers S Σ Γ W B b c d v j₂.type j₃.type j₄.type) z k

    joined : {Γ : Scope} {a b : Term} {A B V W Y : ℕ} {R : Type 0} → InScope S Γ → Typed S Σ Γ a A V → Typed S Σ Γ b B W →
        join V W ≡ Some Y →
        (Typed S Σ Γ a A Y → Typed S Σ Γ b B Y → R) → R
    joined {V = V} {W = W} g da db m f =
        let r = join_inv V W (regular L g da).1 (regular L g db).1 m in f (raise r.0 da) (raise r.1 db)

    resumed : {Γ : Scope} {a b c d : Term} {n V W B r₂ r₃ r₄ : ℕ} {i : Judgement} → Typed S Σ Γ a n V → Is S n (instance_type W B) →
        reads V i.yields ≡ true → Handlers S Σ Γ W B b c d i r₂ r₃ r₄ →
        Typed S Σ Γ (resume a b c d) i.type i.yields
    resumed {V = V} {i = i} da h c k =
        t_resume h k.second_is k.third_is k.fourth_is (raise (reads_inv V i.yields k.yields_row c) da) k.first
        k.second k.third

    executing : {Γ : Scope} {l : ℕ} {a b c d : Term} {n V W B r₂ r₃ r₄ : ℕ} {i : Judgement} → at Σ l ≡ Some n → Typed S Σ Γ a B V →
        Is S n (instance_type W B) → reads V W ≡ true →
        Handlers S Σ Γ W B b c d i r₂ r₃ r₄ → Typed S Σ Γ (resumption l a b c d) i.type i.yields
    executing {V = V} {W = W} q da h c k =
        t_resumption q h k.second_is k.third_is k.fourth_is (raise (reads_inv V W (instance_yield _ h) c) da) k.first
        k.second k.third

    pub found : (t : Term) {Γ : Scope} → InScope S Γ → (i : Judgement) → judge S Σ Γ t ≡ Some i → Typed S Σ Γ t i.type i.yields
    unfolding judge
    found unit g i e = got e t_unit
    found (variable n) {Γ} g i e = then_by (look Γ n) _ e λ T q e. got e (t_variable q)
    found (abstraction x r b) {Γ} g i e =
        then_by (function_at S r) _ e λ p q e.
        then_by (judge S Σ (bind x p.0 Γ) b) _ e λ j d e.
        only_by (eqb j.type p.1 && eqb j.yields 1) _ e λ c e.
        and_by (eqb j.type p.1) (eqb j.yields 1) c λ c₁ c₂.
        got e (t_abstraction (function_inv S r q) (reyield (same j.yields 1 c₂)
        (retype (same j.type p.1 c₁) (found b (in_bind x (function_argument r (function_inv S r q)) g) j d))))
    found (coroutine x r b) {Γ} g i e =
        then_by (coroutine_at S r) _ e λ p q e.
        then_by (judge S Σ (bind x p.0 Γ) b) _ e λ j d e.
        only_by (eqb j.type p.2 && reads j.yields p.1) _ e λ c e.
        and_by (eqb j.type p.2) (reads j.yields p.1) c λ c₁ c₂.
        got e (t_coroutine (coroutine_inv S r q) (raise (reads_inv j.yields p.1 (coroutine_yield r (coroutine_inv S r q)) c₂)
        (retype (same j.type p.2 c₁) (found b (in_bind x (coroutine_argument r (coroutine_inv S r q)) g) j d))))
    found (application f a) {Γ} g i e =
        then_by (judge S Σ Γ f) _ e λ j df e.
        then_by (judge S Σ Γ a) _ e λ k da e.
        then_by (at S.table j.type) _ e λ ty h e. found_application g j k i ty h e (found f g j df) (found a g k da)
    found (yield t) {Γ} g i e =
        then_by (judge S Σ Γ t) _ e λ j d e.
        only_by (reads j.yields j.type) _ e λ c e. got e (yielded (found t g j d) c)
      where
        yielded : {T Y : ℕ} → Typed S Σ Γ t T Y → reads Y T ≡ true → Typed S Σ Γ (yield t) 0 T
        yielded {T} {Y} d c = t_yield (raise (reads_inv Y T (regular L g d).0 c) d)
    found (start n f a) {Γ} g i e =
        then_by (instance_at S n) _ e λ p q e.
        then_by (judge S Σ Γ f) _ e λ j df e.
        then_by (judge S Σ Γ a) _ e λ k da e.
        then_by (coroutine_at S j.type) _ e λ r h e.
        only_by (eqb k.type r.0 && eqb r.1 p.0 && eqb r.2 p.1) _ e λ c e.
        and_by (eqb k.type r.0 && eqb r.1 p.0) (eqb r.2 p.1) c λ c c₃.
        and_by (eqb k.type r.0) (eqb r.1 p.0) c λ c₁ c₂.
        then_by (join j.yields k.yields) _ e λ Y m e.
        joined g (found f g j df) (found a g k da) m λ df da.
        got e (t_start (instance_inv S n q) (coroutine_inv S j.type h ∙ alike refl (same r.1 p.0 c₂) (same r.2 p.1 c₃)) df
        (retype (same k.type r.0 c₁) da))
    found (resume a b c d) {Γ} g i e =
        then_by (judge S Σ Γ a) _ e λ j₁ d₁ e.
        then_by (judge S Σ Γ b) _ e λ j₂ d₂ e.
        then_by (judge S Σ Γ c) _ e λ j₃ d₃ e.
        then_by (judge S Σ Γ d) _ e λ j₄ d₄ e.
        then_by (instance_at S j₁.type) _ e λ p q e.
        then_by (handled S p.0 p.1 j₂ j₃ j₄) _ e λ h k e.
        only_by (reads j₁.yields h.yields) _ e λ z e.
        got e (resumed (found a g j₁ d₁) (instance_inv S j₁.type q) z
        (found_handled p.0 p.1 j₂ j₃ j₄ h k (found b g j₂ d₂) (found c g j₃ d₃) (found d g j₄ d₄)))
    found (snapshot t) {Γ} g i e =
        then_by (judge S Σ Γ t) _ e λ j d e.
        then_by (instance_at S j.type) _ e λ p q e. got e (t_snapshot (instance_inv S j.type q) (found t g j d))
    found (fix t) {Γ} g i e =
        then_by (judge S Σ Γ t) _ e λ j d e.
        then_by (function_at S j.type) _ e λ p q e.
        only_by (eqb p.0 p.1 && eqb j.yields 1) _ e λ c e.
        and_by (eqb p.0 p.1) (eqb j.yields 1) c λ c₁ c₂.
        got e (t_fix (function_inv S j.type q ∙ ap (λ A. Some (function_type A p.1)) (same p.0 p.1 c₁))
        (reyield (same j.yields 1 c₂) (found t g j d)))
    found (atom k n) g i e =
        only_by (ltb k S.set.bases && S.set.holds k n) _ e λ c e.
        and_by (ltb k S.set.bases) (S.set.holds k n) c λ c₁ c₂. got e (t_atom (ltb→lt k S.set.bases (subst True (sym c₁) tt)) c₂)
    found (operation n a b) {Γ} g i e =
        then_by (S.set.signature n) _ e λ s h e.
        then_by (judge S Σ Γ a) _ e λ j da e.
        then_by (judge S Σ Γ b) _ e λ k db e.
        only_by (eqb j.type (suc (suc s.first)) && eqb k.type (suc (suc s.second))) _ e λ c e.
        and_by (eqb j.type (suc (suc s.first))) (eqb k.type (suc (suc s.second))) c λ c₁ c₂.
        then_by (join j.yields k.yields) _ e λ Y m e.
        joined g (found a g j da) (found b g k db) m λ da db.
        got e (t_operation h (retype (same j.type (suc (suc s.first)) c₁) da) (retype (same k.type (suc (suc s.second)) c₂) db))
    found (instance l r) g i e =
        then_by (at Σ l) _ e λ m h e.
        then_by (instance_at S r) _ e λ p q e.
        only_by (eqb m r) _ e λ c e. got e (t_instance (h ∙ ap (λ x. Some x) (same m r c)) (instance_inv S r q))
    found (resumption l a b c d) {Γ} g i e =
        then_by (at Σ l) _ e λ m h e.
        then_by (instance_at S m) _ e λ p q e.
        then_by (judge S Σ Γ a) _ e λ j₁ d₁ e.
        then_by (judge S Σ Γ b) _ e λ j₂ d₂ e.
        then_by (judge S Σ Γ c) _ e λ j₃ d₃ e.
        then_by (judge S Σ Γ d) _ e λ j₄ d₄ e.
        only_by (eqb j₁.type p.1 && reads j₁.yields p.0) _ e λ z e.
        and_by (eqb j₁.type p.1) (reads j₁.yields p.0) z λ c₁ c₂.
        executing h (retype (same j₁.type p.1 c₁) (found a g j₁ d₁)) (instance_inv S m q) c₂
        (found_handled p.0 p.1 j₂ j₃ j₄ i e (found b g j₂ d₂) (found c g j₃ d₃) (found d g j₄ d₄))
    found (suspension t v) {Γ} g i e =
        then_by (judge S Σ Γ t) _ e λ j dt e.
        then_by (judge S Σ Γ v) _ e λ k dv e.
        only_by (is_value v && eqb k.yields 1 && reads j.yields k.type) _ e λ c e.
        and_by (is_value v && eqb k.yields 1) (reads j.yields k.type) c λ c c₃.
        and_by (is_value v) (eqb k.yields 1) c λ c₁ c₂. got e (suspended c₁ (found t g j dt)
        (reyield (same k.yields 1 c₂) (found v g k dv)) c₃)
      where
        suspended : {T Y V : ℕ} → is_value v ≡ true → Typed S Σ Γ t T Y → Typed S Σ Γ v V 1 → reads Y V ≡ true →
            Typed S Σ Γ (suspension t v) T V
        suspended {T} {Y} {V} h d dv c = t_suspension h (raise (reads_inv Y V (regular L g dv).0 c) d) dv
