-- The verdict on a term is that on its parts, and then the rule by its first word.
use Rattle.std.proofs.Common.{◌≡◌, ℕ, ◌+◌, ◌*◌, ◌/◌, ◌%◌, ◌^◌, ◌<◌, Bool, true, ◌&&◌, ltb, List, [], ◌∷◌, refl, arith}
use Rattle.std.proofs.lemmas.Bool.{and_parts, ltb-true}
use Rattle.quantities.specs.Meaning.{Meaning}
use Rattle.rules.specs.Rules.{Verdict}
use Rattle.calculus.specs.Terms.{Term, unit, variable, abstraction, coroutine, application, yield, start, resume, snapshot, fix, atom, operation, instance, resumption, suspension}
use Rattle.calculus.specs.Parts.{parts, size}
use Rattle.layout.specs.Layout.{word_of}
use Rattle.encoding.specs.Encoding.{first_word, FirstFits}
use Rattle.encoding.proofs.FirstWord.{first_kind}
use Rattle.judging.specs.Verdicts.{verdict, after}
use Rattle.typing.specs.declared.model.Scoped.{Scoped}
use Rattle.typing.specs.declared.model.Frame.{Frame}
use Rattle.typing.specs.Machine.{variables, fresh, added, rule_of, entered}

abbrev pub head : Term → ℕ
head t = word_of (first_word t)

-- the lowest field, and the row above it
low : (k n r w : ℕ) → n < 2 ^ 12 → r < 2 ^ 9 → w ≡ k * 2 ^ 27 + (n + r * 2 ^ 12) → w % 2 ^ 12 ≡ n
low k n r w f g e = omega arith

above : (k n r w : ℕ) → n < 2 ^ 12 → r < 2 ^ 9 → w ≡ k * 2 ^ 27 + (n + r * 2 ^ 12) → w / 2 ^ 12 % 2 ^ 9 ≡ r
above k n r w f g e = omega arith

under : (n m : ℕ) (b : Bool) → (ltb n m && b) ≡ true → n < m
under n m b h = ltb-true n m (and_parts (ltb n m) b h).0

rest : (n m : ℕ) (b : Bool) → (ltb n m && b) ≡ true → b ≡ true
rest n m b h = (and_parts (ltb n m) b h).1

module _ (m : Meaning) (rows : List ℕ) where
  -- the judgements of the terms that stand from place i on, added to a frame, and then k
  abbrev pub judges : List Scoped → ℕ → Frame → List Term → (Frame → Verdict) → Verdict
  judges Γ i e [] k = k e
  judges Γ i e (t ∷ ts) k = after (verdict m rows (variables Γ) i t) λ j. judges Γ (i + size t) (added e j) ts k

  abbrev Goes : Term → List Scoped → ℕ → Type 0
  Goes t Γ i =
      verdict m rows (variables Γ) i t
      ≡ judges (entered rows (head t) Γ) (i + 1) (fresh (head t) i) (parts t) λ e. rule_of m rows (entered rows (head t) Γ) e

  pub verdict_is : (t : Term) → FirstFits t → (Γ : List Scoped) (i : ℕ) → Goes t Γ i
  verdict_is unit h Γ i = refl
  verdict_is (variable x) h Γ i =
      rw (first_kind (variable x) h, low 1 x 0 (head (variable x)) (under x _ _ h) (omega arith) (omega arith))
  verdict_is (abstraction x r b) h Γ i =
      let f = under x _ _ h in
      let g = under r _ _ (rest x _ _ h) in
      let w = head (abstraction x r b) in
      rw (first_kind (abstraction x r b) h, low 2 x r w f g (omega arith), above 2 x r w f g (omega arith))
  verdict_is (coroutine x r b) h Γ i =
      let f = under x _ _ h in
      let g = under r _ _ (rest x _ _ h) in
      let w = head (coroutine x r b) in
      rw (first_kind (coroutine x r b) h, low 3 x r w f g (omega arith), above 3 x r w f g (omega arith))
  verdict_is (application f a) h Γ i = refl
  verdict_is (yield t) h Γ i = refl
  verdict_is (start r f a) h Γ i =
      rw (first_kind (start r f a) h, above 6 0 r (head (start r f a)) (omega arith) (under r _ _ h) (omega arith))
  verdict_is (resume a b c d) h Γ i = refl
  verdict_is (snapshot t) h Γ i = refl
  verdict_is (fix t) h Γ i = refl
  verdict_is (atom k p) h Γ i =
      let f = under p _ _ h in
      let g = under k _ _ (rest p _ _ h) in
      let base : head (atom k p) / 2 ^ 24 % 2 ^ 3 ≡ k = omega arith in
      let load : head (atom k p) % 2 ^ 24 ≡ p = omega arith in
      rw (first_kind (atom k p) h, base, load)
  verdict_is (operation o a b) h Γ i =
      let f = under o _ _ h in
      let number : head (operation o a b) % 2 ^ 8 ≡ o = omega arith in
      rw (first_kind (operation o a b) h, number)
  verdict_is (instance l r) h Γ i = rw (first_kind (instance l r) h)
  verdict_is (resumption l a b c d) h Γ i = rw (first_kind (resumption l a b c d) h)
  verdict_is (suspension t v) h Γ i = refl
