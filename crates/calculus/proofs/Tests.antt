-- What a computed test says, when it is known to pass.
use Rattle.std.proofs.Common.{◌≡◌, ℕ, Bool, true, false, T as True, eqb, sym, refl, subst, arith, eqb→eq}
use lib.Dec.{eqb_refl}

pub never : {A : Type 0} → false ≡ true → A
never e = let z : ◌≡◌ {A = ℕ} 0 1 = cc in absurd (omega arith)

pub true_of : (b : Bool) → True b → b ≡ true
true_of true t = refl
true_of false t = absurd t

-- and back
pub of_true : (b : Bool) → b ≡ true → True b
of_true true e = tt
of_true false e = never e

pub eqb_self : (n : ℕ) → eqb n n ≡ true
eqb_self n = go (eqb n n) (eqb_refl n)
  where
    go : (b : Bool) → True b → b ≡ true
    go true t = refl
    go false t = absurd t

pub same : (m n : ℕ) → eqb m n ≡ true → m ≡ n
same m n e = eqb→eq m n (subst True (sym e) tt)
