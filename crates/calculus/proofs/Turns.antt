-- What a step does to the labels of the resumptions on the path: they stay distinct, and their bindings empty.
use Rattle.std.proofs.Common.{◌≡◌, ℕ, zero, suc, List, [], ◌∷◌, ◌++◌, Some, refl, ap, arith}
use Rattle.calculus.specs.Lists.{at, put}
use Rattle.calculus.specs.Terms.{Term}
use Rattle.calculus.specs.Configurations.{Binding, empty, ready, Bindings}
use Rattle.calculus.specs.Shape.{Apart, Distinct, Empties}
use Rattle.calculus.proofs.Bindings.{at_more}

pub record StaysEmpty (μ μ' : Bindings) : Type 0 where
  pub stays : (l i : ℕ) → at μ l ≡ Some (empty i) → at μ' l ≡ Some (empty i)

pub data Turn (μ μ' : Bindings) : List ℕ → List ℕ → Type 0 where
  as_before : {ls : List ℕ} → StaysEmpty μ μ' → Turn μ μ' ls ls
  entered : {l i : ℕ} {t : Term} → at μ l ≡ Some (ready i t) → μ' ≡ put μ l (empty i) → Turn μ μ' [] (l ∷ [])
  captured : {l : ℕ} (i : ℕ) (t : Term) → μ' ≡ put μ l (ready i t) → Turn μ μ' (l ∷ []) []
  completed : {l : ℕ} → StaysEmpty μ μ' → Turn μ μ' (l ∷ []) []
  deeper : {l : ℕ} {ks ks' : List ℕ} → Turn μ μ' ks ks' → Turn μ μ' (l ∷ ks) (l ∷ ks')

module _ {A : Type 0} where
  pub put_other : (xs : List A) (l : ℕ) (y : A) (n : ℕ) → (n ≡ l → ⊥) → at (put xs l y) n ≡ at xs n
  put_other [] l y n h = refl
  put_other (x ∷ xs) zero y zero h = absurd (h refl)
  put_other (x ∷ xs) zero y (suc n) h = refl
  put_other (x ∷ xs) (suc l) y zero h = refl
  put_other (x ∷ xs) (suc l) y (suc n) h = put_other xs l y n (λ e. h (ap suc e))

  pub put_there : (xs : List A) (l : ℕ) (y x : A) → at xs l ≡ Some x → at (put xs l y) l ≡ Some y
  put_there [] l y x e = cc
  put_there (z ∷ xs) zero y x e = refl
  put_there (z ∷ xs) (suc l) y x e = put_there xs l y x e

empty_not_ready : {l k i j : ℕ} {t : Term} (μ : Bindings) → at μ l ≡ Some (empty i) → at μ k ≡ Some (ready j t) → l ≡ k → ⊥
empty_not_ready μ e h q = let z : ◌≡◌ {A = ℕ} 0 1 = cc in omega arith

module _ {μ μ' : Bindings} where
  -- a label that is not among them, its binding empty, stays so
  beyond : {ks ks' : List ℕ} (o i : ℕ) → Turn μ μ' ks ks' → at μ o ≡ Some (empty i) → Apart o ks → (at μ' o ≡ Some (empty i)) × Apart o ks'
  beyond o i (as_before s) e a = (s.stays o i e, a)
  beyond o i (entered {l = l} {i = j} h q) e a =
      let n : o ≡ l → ⊥ = empty_not_ready μ e h in (rw (q, put_other μ l (empty j) o n) e, (n, tt))
  beyond o i (captured {l = l} j t q) e a = (rw (q, put_other μ l (ready j t) o a.0) e, tt)
  beyond o i (completed s) e a = (s.stays o i e, tt)
  beyond o i (deeper t) e a = let b = beyond o i t e a.1 in (b.0, (a.0, b.1))

  stay_empty : (ls : List ℕ) → StaysEmpty μ μ' → Empties μ ls → Empties μ' ls
  stay_empty [] s e = tt
  stay_empty (l ∷ ls) s e = ((e.0.0, s.stays l e.0.0 e.0.1), stay_empty ls s e.1)

  pub turned : {ks ks' : List ℕ} → Turn μ μ' ks ks' → Distinct ks → Empties μ ks → Distinct ks' × Empties μ' ks'
  turned (as_before {ls = ls} s) d e = (d, stay_empty ls s e)
  turned (entered {l = l} {i = j} {t = t} h q) d e = ((tt, tt), ((j, rw (q) (put_there μ l (empty j) (ready j t) h)), tt))
  turned (captured j t q) d e = (tt, tt)
  turned (completed s) d e = (tt, tt)
  turned (deeper {l = l} t) d e =
      let k = turned t d.1 e.1 in let b = beyond l e.0.0 t e.0.1 d.0 in
      ((b.1, k.0), ((e.0.0, b.0), k.1))

pub unchanged : {μ : Bindings} → StaysEmpty μ μ
unchanged = record { stays = λ l i e. e }

pub appended : {μ : Bindings} (β : Binding) → StaysEmpty μ (μ ++ β ∷ [])
appended {μ} β = record { stays = λ l i e. at_more μ (β ∷ []) l (empty i) e }
