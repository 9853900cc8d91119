-- Bindings appended to, and changed at a place; rows of bindings that grow at the end.
use Rattle.std.proofs.Common.{◌≡◌, ℕ, zero, suc, ◌⊎◌, List, [], ◌∷◌, ◌++◌, length, Some, sym, refl, ap, ◌∙◌, inl, inr, append-nil, arith}
use Rattle.calculus.specs.Lists.{at, put, Prefix}
use Rattle.calculus.specs.Rows.{Setting}
use Rattle.calculus.specs.Configurations.{Binding, empty, ready, row_of, Bindings, rows}
use Rattle.calculus.specs.WellTyped.{BodyTyped, BindingTyped, BindingsTyped}
use Rattle.calculus.proofs.Weakening.{Longer, weaken, wider_refl}

module _ {A : Type 0} where
  pub at_more : (xs ys : List A) (n : ℕ) (x : A) → at xs n ≡ Some x → at (xs ++ ys) n ≡ Some x
  at_more [] ys n x e = cc
  at_more (y ∷ xs) ys zero x e = e
  at_more (y ∷ xs) ys (suc n) x e = at_more xs ys n x e

  pub at_last : (xs : List A) (y : A) → at (xs ++ y ∷ []) (length xs) ≡ Some y
  at_last [] y = refl
  at_last (x ∷ xs) y = at_last xs y

  pub at_appended : (xs : List A) (y : A) (n : ℕ) (x : A) → at (xs ++ y ∷ []) n ≡ Some x → (at xs n ≡ Some x) ⊎ (x ≡ y)
  at_appended [] y zero x e = inr (cc)
  at_appended [] y (suc n) x e = inl e
  at_appended (z ∷ xs) y zero x e = inl e
  at_appended (z ∷ xs) y (suc n) x e = at_appended xs y n x e

  pub at_put : (xs : List A) (l : ℕ) (y : A) (n : ℕ) (x : A) → at (put xs l y) n ≡ Some x → (at xs n ≡ Some x) ⊎ (x ≡ y)
  at_put [] l y n x e = inl e
  at_put (z ∷ xs) zero y zero x e = inr (cc)
  at_put (z ∷ xs) zero y (suc n) x e = inl e
  at_put (z ∷ xs) (suc l) y zero x e = inl e
  at_put (z ∷ xs) (suc l) y (suc n) x e = at_put xs l y n x e

pub at_rows : (μ : Bindings) (l : ℕ) {β : Binding} → at μ l ≡ Some β → at (rows μ) l ≡ Some (row_of β)
at_rows [] l {β} e = cc
at_rows (γ ∷ μ) zero {β} e = let z : γ ≡ β = cc in cc
at_rows (γ ∷ μ) (suc l) e = at_rows μ l e

pub rows_last : (μ : Bindings) (β : Binding) → at (rows (μ ++ β ∷ [])) (length μ) ≡ Some (row_of β)
rows_last [] β = refl
rows_last (γ ∷ μ) β = rows_last μ β

pub rows_append : (μ : Bindings) (β : Binding) → rows (μ ++ β ∷ []) ≡ rows μ ++ row_of β ∷ []
rows_append [] β = refl
rows_append (γ ∷ μ) β = ap (λ r. row_of γ ∷ r) (rows_append μ β)

pub rows_put : (μ : Bindings) (l : ℕ) (β γ : Binding) → at μ l ≡ Some β → row_of γ ≡ row_of β → rows (put μ l γ) ≡ rows μ
rows_put [] l β γ e q = refl
rows_put (δ ∷ μ) zero β γ e q = let z : δ ≡ β = cc in cc
rows_put (δ ∷ μ) (suc l) β γ e q = ap (λ r. row_of δ ∷ r) (rows_put μ l β γ e q)

-- from a row of the labels to the binding
pub at_unrows : (μ : Bindings) (l : ℕ) (r : ℕ) → at (rows μ) l ≡ Some r → (β : Binding) × (at μ l ≡ Some β) × (row_of β ≡ r)
at_unrows [] l r e = let z : ◌≡◌ {A = ℕ} 0 1 = cc in absurd (omega arith)
at_unrows (β ∷ μ) zero r e = (β, refl, cc)
at_unrows (β ∷ μ) (suc l) r e = at_unrows μ l r e

pub grown_longer : {Σ Σ' : List ℕ} → Prefix Σ Σ' → Longer Σ Σ'
grown_longer {Σ} g = record { still = λ n T e. rw g.is (at_more Σ g.more n T e) }

pub grown_same : {Σ Σ' : List ℕ} → Σ' ≡ Σ → Prefix Σ Σ'
grown_same {Σ} e = record { more = []; is = e ∙ sym (append-nil Σ) }

module _ (S : Setting) {Σ Σ' : List ℕ} (l : Longer Σ Σ') where
  body_longer : (β : Binding) (W B : ℕ) → BodyTyped S Σ β W B → BodyTyped S Σ' β W B
  body_longer (empty i) W B c = tt
  body_longer (ready i t) W B c = weaken l wider_refl c

  pub binding_longer : {β : Binding} → BindingTyped S Σ β → BindingTyped S Σ' β
  binding_longer {β} b =
      record { yields = b.yields; result = b.result; row_is = b.row_is; body_typed = body_longer β _ _ b.body_typed }

  -- every one of the new bindings is an old one, or γ
  pub bindings_change : {μ μ' : Bindings} (γ : Binding) → ((n : ℕ) (x : Binding) → at μ' n ≡ Some x → (at μ n ≡ Some x) ⊎ (x ≡ γ)) →
      BindingTyped S Σ' γ → BindingsTyped S Σ μ → BindingsTyped S Σ' μ'
  bindings_change {μ} γ old new st = record { each = λ n x e. go n x (old n x e) }
    where
      go : (n : ℕ) (x : Binding) → (at μ n ≡ Some x) ⊎ (x ≡ γ) → BindingTyped S Σ' x
      go n x (inl e) = binding_longer (st.each n x e)
      go n x (inr e) = rw e new
