-- Counts: base 0 holds the counts 0 to 65,535, and base 1 holds the truth values 0 and 1.
use Rattle.std.specs.Prelude.{ℕ, ◌+◌, ◌-◌, ◌%◌, Bool, false, cond, ◌&&◌, None, Option, ◌==◌, nat_le, nat_lt}
use Rattle.quantities.specs.declared.Signature.{Signature}
use Rattle.quantities.specs.Meaning.{Meaning, takes}

abbrev pub counts_holds : ℕ → ℕ → Bool
counts_holds k p = cond (k == 0) (nat_lt p 65536) (cond (k == 1) (nat_lt p 2) false)

abbrev pub counts_signature : ℕ → Option Signature
counts_signature o = cond (nat_lt o 2) (takes 0 0 0) (cond (o == 2) (takes 0 0 1) (cond (o == 3) (takes 1 1 1) None))

-- of two counts: 0 adds modulo 65,536, 1 subtracts and stops at 0, 2 says whether the first is at least the second
abbrev pub of_counts : ℕ → ℕ → ℕ → ℕ
of_counts o p q = cond (o == 0) ((p + q) % 65536) (cond (o == 1) (p - q) (cond (o == 2) (cond (nat_le q p) 1 0) 0))

-- 3 is the logical and of two truth values
abbrev pub counts_result : ℕ → ℕ → ℕ → ℕ
counts_result o p q =
    cond (o == 3) (cond (p == 1 && q == 1) 1 0) (cond (nat_lt p 65536 && nat_lt q 65536) (of_counts o p q) 0)

abbrev pub counts : Meaning
counts = record { bases = 2; holds = counts_holds; signature = counts_signature; result = counts_result }
