-- Equations that never hold.
use Rattle.std.proofs.Common.{◌≡◌, ℕ, Bool, true, false, Some, None, arith}

pub never : {A : Type 0} → ◌≡◌ {A = Bool} false true → A
never e = let z : ◌≡◌ {A = ℕ} 0 1 = cc in absurd (omega arith)

pub none : {A X : Type 0} {x : X} → None ≡ Some x → A
none e = let z : ◌≡◌ {A = ℕ} 0 1 = cc in absurd (omega arith)
