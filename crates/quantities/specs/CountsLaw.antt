-- Counts keep the law of a quantity set.
use Rattle.std.specs.Prelude.{◌≡◌, ℕ, ◌^◌, ◌<◌, true, false, cond, None, Option, ◌==◌, nat_lt}
use Rattle.std.proofs.Common.{arith, lit<, lit≤}
use Rattle.std.proofs.lemmas.Bool.Decides.{nat_tests}
use Rattle.std.proofs.lemmas.Bool.{cond_both}
use Rattle.quantities.specs.declared.Signature.{Signature}
use Rattle.quantities.specs.Meaning.{Lawful, takes, fits_at, StatedAt, ClosedAt}
use Rattle.quantities.specs.Counts.{counts, counts_holds, counts_signature, counts_result}

-- what holds of the signature of an operation, by cases of the operation
by_operation :
    (o : ℕ) (P : Option Signature → Type 0) → (o < 2 → P (takes 0 0 0)) → (o ≡ 2 → P (takes 0 0 1)) → (o ≡ 3 → P (takes 1 1 1)) →
    ((3 < o) → P None) → P (counts_signature o)
by_operation o P a b c d =
    cond_both (nat_lt o 2) (takes 0 0 0) (cond (o == 2) (takes 0 0 1) (cond (o == 3) (takes 1 1 1) None)) P (λ e. a (grind (arith, nat_tests)))
    (λ e.
    cond_both (o == 2) (takes 0 0 1) (cond (o == 3) (takes 1 1 1) None) P (λ f. b (grind (arith, nat_tests)))
    (λ f. cond_both (o == 3) (takes 1 1 1) None P (λ h. c (grind (arith, nat_tests))) (λ h. d (grind (arith, nat_tests)))))

held : (k p : ℕ) → counts_holds k p ≡ true → (k < 2) × (p < 2 ^ 24)
held k p h = (grind (arith, nat_tests), grind (arith, nat_tests))

otherwise : (o p q : ℕ) → fits_at counts (counts_signature o) p q ≡ false → counts_result o p q ≡ 0
otherwise o p q =
    by_operation o (λ s. fits_at counts s p q ≡ false → counts_result o p q ≡ 0) (λ e h. grind (arith, nat_tests)) (λ e h. grind (arith, nat_tests))
    (λ e h. grind (arith, nat_tests)) (λ e h. grind (arith, nat_tests))

closed : (o : ℕ) → ClosedAt counts o (counts_signature o)
closed o =
    by_operation o (ClosedAt counts o) (λ e p q f g. (grind (arith, nat_tests), grind (arith, nat_tests)))
    (λ e p q f g. (grind (arith, nat_tests), grind (arith, nat_tests))) (λ e p q f g. (grind (arith, nat_tests), grind (arith, nat_tests))) (λ e. tt)

stated : (o : ℕ) → StatedAt counts (counts_signature o)
stated o =
    by_operation o (StatedAt counts) (λ e. (lit< tt, lit< tt, lit< tt)) (λ e. (lit< tt, lit< tt, lit< tt))
    (λ e. (lit< tt, lit< tt, lit< tt)) (λ e. tt)

pub counts_lawful : Lawful counts
counts_lawful =
    record { few = (lit≤ tt, lit≤ tt); held = held; stated = stated; otherwise = otherwise; closed = closed }
