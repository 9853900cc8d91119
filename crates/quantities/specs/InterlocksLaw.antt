-- Interlocks keep the law of a quantity set.
use Rattle.std.specs.Prelude.{◌≡◌, ℕ, zero, suc, ◌^◌, ◌<◌, Bool, true, false, ◌&&◌, List, [], ◌∷◌, None, Option, nat_lt, slice_index, slice_index_or, refl}
use Rattle.std.proofs.Common.{arith, lit<, lit≤}
use Rattle.std.proofs.lemmas.Bool.Decides.{nat_tests}
use Rattle.std.proofs.lemmas.Bool.{cond_both, and_parts, ltb-true, lt-ltb}
use Rattle.quantities.specs.declared.Signature.{Signature}
use Rattle.quantities.specs.Meaning.{Lawful, takes, fits_at, StatedAt, ClosedAt}
use Rattle.quantities.specs.Interlocks.{interlocks, interlocks_holds, interlocks_signature, interlocks_result, transitions}

-- the test of the table: each entry of each row is a condition
abbrev conditions : List ℕ → Bool
conditions [] = true
conditions (x ∷ xs) = nat_lt x 4 && conditions xs

abbrev all_conditions : List (List ℕ) → Bool
all_conditions [] = true
all_conditions (r ∷ rs) = conditions r && all_conditions rs

in_row : (xs : List ℕ) → conditions xs ≡ true → (q : ℕ) → slice_index xs q < 4
in_row [] t q = lit< tt
in_row (x ∷ xs) t zero = ltb-true x 4 (and_parts (nat_lt x 4) (conditions xs) t).0
in_row (x ∷ xs) t (suc q) = in_row xs (and_parts (nat_lt x 4) (conditions xs) t).1 q

in_table : (rs : List (List ℕ)) → all_conditions rs ≡ true → (p q : ℕ) → slice_index (slice_index_or rs p []) q < 4
in_table [] t p q = lit< tt
in_table (r ∷ rs) t zero q = in_row r (and_parts (conditions r) (all_conditions rs) t).0 q
in_table (r ∷ rs) t (suc p) q = in_table rs (and_parts (conditions r) (all_conditions rs) t).1 p q

-- the test computes, so every entry is a condition
entry : (p q : ℕ) → slice_index (slice_index_or transitions p []) q < 4
entry p q = in_table transitions refl p q

result_small : (o p q : ℕ) → interlocks_result o p q < 4
result_small o p q = let h = entry p q in grind (arith, nat_tests)

held : (k p : ℕ) → interlocks_holds k p ≡ true → (k < 1) × (p < 2 ^ 24)
held k p h = (grind (arith, nat_tests), grind (arith, nat_tests))

by_operation : (o : ℕ) (P : Option Signature → Type 0) → (o < 2 → P (takes 0 0 0)) → ((1 < o) → P None) → P (interlocks_signature o)
by_operation o P a b =
    cond_both (nat_lt o 2) (takes 0 0 0) None P (λ e. a (grind (arith, nat_tests))) (λ e. b (grind (arith, nat_tests)))

otherwise : (o p q : ℕ) → fits_at interlocks (interlocks_signature o) p q ≡ false → interlocks_result o p q ≡ 0
otherwise o p q =
    by_operation o (λ s. fits_at interlocks s p q ≡ false → interlocks_result o p q ≡ 0) (λ e h. grind (arith, nat_tests))
    (λ e h. grind (arith, nat_tests))

closed : (o : ℕ) → ClosedAt interlocks o (interlocks_signature o)
closed o =
    by_operation o (ClosedAt interlocks o)
    (λ e p q f g. let s = result_small o p q in (lt-ltb (interlocks_result o p q) 4 s, omega arith)) (λ e. tt)

stated : (o : ℕ) → StatedAt interlocks (interlocks_signature o)
stated o = by_operation o (StatedAt interlocks) (λ e. (lit< tt, lit< tt, lit< tt)) (λ e. tt)

pub interlocks_lawful : Lawful interlocks
interlocks_lawful =
    record { few = (lit≤ tt, lit≤ tt); held = held; stated = stated; otherwise = otherwise; closed = closed }
