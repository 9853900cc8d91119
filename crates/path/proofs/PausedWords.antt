-- Where no part is looked at.
use Rattle.std.proofs.Common.{◌≡◌, ℕ, zero, suc, ◌≤◌, List, [], ◌∷◌, None, refl, arith}
use Rattle.path.specs.Walking.{pause_at}

pub pause_none : (i skip : ℕ) (ws : List ℕ) → skip ≤ 0 → pause_at i 0 skip ws ≡ None
pause_none i skip [] h = refl
pause_none i zero (w ∷ ws) h = refl
pause_none i (suc s) (w ∷ ws) h = absurd (omega arith)
