-- The check finds the type of what is typed, and its least yield type.
use Rattle.std.proofs.Common.{◌≡◌, ℕ, suc, Bool, true, false, cond, ◌&&◌, eqb, ltb, List, Some, Option, sym, refl, ◌∙◌, lt→ltb}
use mathlib.Core.Bool.{or-true}
use Rattle.calculus.specs.Lists.{at}
use Rattle.calculus.specs.Terms.{Term, resume, resumption}
use Rattle.calculus.specs.Rows.{coroutine_type, instance_type, Setting, Is}
use Rattle.calculus.specs.Typing.{Scope, Reads, as_is, raised, Typed, t_any_yield, t_unit, t_variable, t_abstraction, t_coroutine, t_apply, t_apply_coroutine, t_yield, t_start, t_resume, t_snapshot, t_fix, t_atom, t_operation, t_instance, t_resumption, t_suspension}
use Rattle.calculus.specs.Judgement.{judged, and_then, only_if, reads, join, handled, judge}
use Rattle.calculus.proofs.Tests.{never, true_of, eqb_self}
use Rattle.calculus.proofs.Inversion.{read_again}

is : {m n : ℕ} → m ≡ n → eqb m n ≡ true
is {m} {n} e = rw e (eqb_self n)

reads_self : (V : ℕ) → reads V V ≡ true
reads_self V = rw (eqb_self V)

reads_one : (V W : ℕ) → V ≡ 1 → reads V W ≡ true
reads_one V W e = rw e (or-true (eqb 1 W))

pub reads_of : {S : Setting} {V Y : ℕ} → Reads S V Y → reads V Y ≡ true
reads_of {V = V} {Y = Y} (as_is e) = rw e (reads_self Y)
reads_of {V = V} {Y = Y} (raised e y) = reads_one V Y e

reads_bottom : {S : Setting} {W : ℕ} → Reads S W 1 → W ≡ 1
reads_bottom (as_is e) = e
reads_bottom (raised e y) = e

back : {S : Setting} {V W Y : ℕ} → Reads S V Y → Reads S W Y → reads V W ≡ false → reads W V ≡ true
back {V = V} {W = W} (as_is e) (as_is h) q = let z : W ≡ V = cc in rw z (reads_self V)
back {V = V} {W = W} (as_is e) (raised h y) q = reads_one W V h
back {V = V} {W = W} (raised e x) h q = never (sym q ∙ reads_one V W e)

join_reads : {S : Setting} {V W Y : ℕ} → Reads S V Y → Reads S W Y → (X : ℕ) × (join V W ≡ Some X) × Reads S X Y
join_reads {S} {V} {W} {Y} rv rw' = go (reads V W) refl
  where
    go : (b : Bool) → reads V W ≡ b → (X : ℕ) × (cond b (Some W) (only_if (reads W V) (Some V)) ≡ Some X) × Reads S X Y
    go true e = (W, refl, rw')
    go false e = (V, rw (back rv rw' e), rv)

both : {a b : Bool} → a ≡ true → b ≡ true → (a && b) ≡ true
both {a} {b} e h = rw (e, h)

then_is : {A B : Type 0} (o : Option A) (f : A → Option B) {a : A} {x : Option B} → o ≡ Some a → f a ≡ x → and_then o f ≡ x
then_is o f {a} e h = rw e h

only_is : {A : Type 0} (b : Bool) (o : Option A) → b ≡ true → only_if b o ≡ o
only_is b o e = rw e

handles : (S : Setting) (r₂ r₃ r₄ : ℕ) {W B R Y V₂ V₃ V₄ : ℕ} → Is S r₂ (coroutine_type B Y R) → Is S r₃ (coroutine_type W Y R) →
    Is S r₄ (coroutine_type 0 Y R) → Reads S V₂ Y → Reads S V₃ Y → Reads S V₄ Y →
    handled S W B (record { type = r₂; yields = V₂ }) (record { type = r₃; yields = V₃ }) (record { type = r₄; yields = V₄ }) ≡ judged R Y
handles S r₂ r₃ r₄ {W} {B} {R} {Y} e₂ e₃ e₄ h₂ h₃ h₄ =
    then_is _ _ (then_is _ _ e₂ refl) (then_is _ _ (then_is _ _ e₃ refl) (then_is _ _ (then_is _ _ e₄ refl)
    (only_is _ _ (both (both (eqb_self B) (eqb_self W)) refl) ∙ (only_is _ _
    (both (both (both (eqb_self Y) (eqb_self Y)) (eqb_self R)) (eqb_self R)) ∙
    only_is _ _ (both (both (reads_of h₂) (reads_of h₃)) (reads_of h₄))))))

found_resume : (S : Setting) (Σ : List ℕ) (Γ : Scope) (a b c d : Term) (i r₂ r₃ r₄ : ℕ) {W B R Y V₁ V₂ V₃ V₄ : ℕ} →
    Is S i (instance_type W B) → Is S r₂ (coroutine_type B Y R) → Is S r₃ (coroutine_type W Y R) →
    Is S r₄ (coroutine_type 0 Y R) → judge S Σ Γ a ≡ judged i V₁ → judge S Σ Γ b ≡ judged r₂ V₂ → judge S Σ Γ c ≡ judged r₃ V₃ →
    judge S Σ Γ d ≡ judged r₄ V₄ → Reads S V₁ Y →
    Reads S V₂ Y → Reads S V₃ Y → Reads S V₄ Y → judge S Σ Γ (resume a b c d) ≡ judged R Y
unfolding judge
found_resume S Σ Γ a b c d i r₂ r₃ r₄ e e₂ e₃ e₄ q₁ q₂ q₃ q₄ h₁ h₂ h₃ h₄ =
    then_is _ _ q₁ (then_is _ _ q₂ (then_is _ _ q₃ (then_is _ _ q₄
    (then_is _ _ (then_is _ _ e refl) (then_is _ _ (handles S r₂ r₃ r₄ e₂ e₃ e₄ h₂ h₃ h₄) (only_is _ _ (reads_of h₁)))))))

found_resumption : (S : Setting) (Σ : List ℕ) (Γ : Scope) (l : ℕ) (a b c d : Term) (i r₂ r₃ r₄ : ℕ) {W B R Y V₁ V₂ V₃ V₄ : ℕ} →
    at Σ l ≡ Some i → Is S i (instance_type W B) → Is S r₂ (coroutine_type B Y R) →
    Is S r₃ (coroutine_type W Y R) → Is S r₄ (coroutine_type 0 Y R) → judge S Σ Γ a ≡ judged B V₁ → judge S Σ Γ b ≡ judged r₂ V₂ →
    judge S Σ Γ c ≡ judged r₃ V₃ → judge S Σ Γ d ≡ judged r₄ V₄ →
    Reads S V₁ W → Reads S V₂ Y → Reads S V₃ Y → Reads S V₄ Y → judge S Σ Γ (resumption l a b c d) ≡ judged R Y
unfolding judge
found_resumption S Σ Γ l a b c d i r₂ r₃ r₄ {W} {B} e' e e₂ e₃ e₄ q₁ q₂ q₃ q₄ h₁ h₂ h₃ h₄ =
    then_is _ _ e' (then_is _ _ (then_is _ _ e refl) (then_is _ _ q₁
    (then_is _ _ q₂ (then_is _ _ q₃ (then_is _ _ q₄ (only_is _ _ (both (eqb_self B) (reads_of h₁)) ∙
    handles S r₂ r₃ r₄ e₂ e₃ e₄ h₂ h₃ h₄))))))

module _ {S : Setting} {Σ : List ℕ} where
  pub complete : {Γ : Scope} {t : Term} {T Y : ℕ} → Typed S Σ Γ t T Y → (W : ℕ) × (judge S Σ Γ t ≡ judged T W) × Reads S W Y
  unfolding judge
  complete (t_any_yield y d) = let k = complete d in (k.0, k.1, read_again y k.2)
  complete t_unit = (1, refl, as_is refl)
  complete (t_variable e) = (1, then_is _ _ e refl, as_is refl)
  complete (t_abstraction {B = B} e d) =
      let k = complete d in (
        1,
        then_is _ _ (then_is _ _ e refl) (then_is _ _ k.1
            (only_is _ _ (both (eqb_self B) (is (reads_bottom k.2))))),
        as_is refl,
      )
  complete (t_coroutine {B = B} e d) =
      let k = complete d in (
        1,
        then_is _ _ (then_is _ _ e refl) (then_is _ _ k.1 (only_is _ _ (both (eqb_self B) (reads_of k.2)))),
        as_is refl,
      )
  complete (t_apply {A = A} e f a) =
      let j = complete f in let k = complete a in let x = join_reads j.2 k.2 in
      (x.0, then_is _ _ j.1 (then_is _ _ k.1 (then_is _ _ e (only_is _ _ (eqb_self A) ∙ then_is _ _ x.1 refl))), x.2)
  complete (t_apply_coroutine {A = A} e f a) =
      let j = complete f in let k = complete a in (
        _,
        then_is _ _ j.1 (then_is _ _ k.1 (then_is _ _ e (only_is _ _
            (both (both (eqb_self A) (reads_of j.2)) (reads_of k.2))))),
        as_is refl,
      )
  complete (t_yield d) = let k = complete d in (_, then_is _ _ k.1 (only_is _ _ (reads_of k.2)), as_is refl)
  complete (t_start {A = A} {W = W} {B = B} i r f a) =
      let j = complete f in let k = complete a in let x = join_reads j.2 k.2 in (
        x.0,
        then_is _ _ (then_is _ _ i refl) (then_is _ _ j.1 (then_is _ _ k.1 (then_is _ _ (then_is _ _ r refl)
            (only_is _ _ (both (both (eqb_self A) (eqb_self W)) (eqb_self B)) ∙ then_is _ _ x.1 refl)))),
        x.2,
      )
  complete (t_resume {Γ = Γ} {a = p} {b = q} {c = s} {d = t} {Y = Y} i r₂ r₃ r₄ a b c d) =
      let j₁ = complete a in let j₂ = complete b in let j₃ = complete c in let j₄ = complete d in
      (Y, found_resume S Σ Γ p q s t _ _ _ _ i r₂ r₃ r₄ j₁.1 j₂.1 j₃.1 j₄.1 j₁.2 j₂.2 j₃.2 j₄.2, as_is refl)
  complete (t_snapshot i d) = let k = complete d in (k.0, then_is _ _ k.1 (then_is _ _ (then_is _ _ i refl) refl), k.2)
  complete (t_fix {T = T} e d) =
      let k = complete d in
      (1, then_is _ _ k.1 (then_is _ _ (then_is _ _ e refl) (only_is _ _ (both (eqb_self T) (is (reads_bottom k.2))))), as_is refl)
  complete (t_atom {k = k} {p = p} h e) =
      (1, only_is _ _ (both (true_of (ltb k S.set.bases) (lt→ltb k S.set.bases h)) e), as_is refl)
  complete (t_operation {s = s} e a b) =
      let j = complete a in let k = complete b in let x = join_reads j.2 k.2 in (
        x.0,
        then_is _ _ e (then_is _ _ j.1 (then_is _ _ k.1
            (only_is _ _ (both (eqb_self (suc (suc s.first))) (eqb_self (suc (suc s.second)))) ∙ then_is _ _ x.1 refl))),
        x.2,
      )
  complete (t_instance {r = r} e i) = (1, then_is _ _ e (then_is _ _ (then_is _ _ i refl) (only_is _ _ (eqb_self r))), as_is refl)
  complete (t_resumption {Γ = Γ} {l = l} {a = p} {b = q} {c = s} {d = t} {Y = Y} e i r₂ r₃ r₄ a b c d) =
      let j₁ = complete a in let j₂ = complete b in let j₃ = complete c in let j₄ = complete d in
      (Y, found_resumption S Σ Γ l p q s t _ _ _ _ e i r₂ r₃ r₄ j₁.1 j₂.1 j₃.1 j₄.1 j₁.2 j₂.2 j₃.2 j₄.2, as_is refl)
  complete (t_suspension h d v) =
      let j = complete d in let k = complete v in
      (_, then_is _ _ j.1 (then_is _ _ k.1 (only_is _ _ (both (both h (is (reads_bottom k.2))) (reads_of j.2)))), as_is refl)
