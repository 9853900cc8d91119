-- Two fields side by side stay below the kind.
use Rattle.std.proofs.Common.{rules, ◌≡◌, ℕ, ◌+◌, ◌*◌, ◌^◌, ◌<◌, ◌≤◌, ◌%◌, arith}
use Rattle.words.specs.declared.kinds.Kind.{Kind}
use Rattle.words.specs.Kinds.{number_of}
use Rattle.std.proofs.lemmas.Nat.{pow-add}
use Rattle.std.proofs.Math.Nat.{mul-le-mul_right, pow-le-pow_right}

-- a power of two that is below the kind fits a word
pub power_fits : (l : ℕ) → l ≤ 27 → 1 * 2 ^ l % 2 ^ 32 ≡ 2 ^ l
power_fits l few = let most : 2 ^ l ≤ 2 ^ 27 = pow-le-pow_right {n = 2} (omega arith) {i = l} {j = 27} few in omega arith

pub below_kind : (l h low high : ℕ) → l + h ≤ 27 → low < 2 ^ l → high < 2 ^ h → low + high * 2 ^ l < 2 ^ 27
below_kind l h low high within a b =
    let one_more : (high + 1) * 2 ^ l ≤ 2 ^ h * 2 ^ l = mul-le-mul_right (2 ^ l) (omega arith) in
    let product : 2 ^ (h + l) ≡ 2 ^ h * 2 ^ l = pow-add 2 h l in
    let most : 2 ^ (h + l) ≤ 2 ^ 27 = pow-le-pow_right {n = 2} (omega arith) {i = h + l} {j = 27} (omega arith) in
    omega arith

pub few_kinds : (k : Kind) → number_of k < 32
few_kinds k = search rules
