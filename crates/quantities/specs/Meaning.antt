-- What a quantity set means: a fixed table of three questions, and the law that the table keeps.
use Rattle.std.specs.Prelude.{◌≡◌, ℕ, ◌^◌, ◌<◌, ◌≤◌, Bool, true, false, ◌&&◌, Some, None, Option}
use Rattle.quantities.specs.declared.Signature.{Signature}

-- The table: how many base types there are; whether a base holds a payload; which bases an operation takes and gives,
-- if it has a signature; and the payload that an operation gives for two payloads.
pub record Meaning : Type 0 where
  pub bases : ℕ
  pub holds : (base : ℕ) → (payload : ℕ) → Bool
  pub signature : (operation : ℕ) → Option Signature
  pub result : (operation : ℕ) → (first : ℕ) → (second : ℕ) → ℕ

-- the signature with these operand bases and this result base
abbrev pub takes : ℕ → ℕ → ℕ → Option Signature
takes a b c = Some (record { first = a; second = b; result = c })

-- whether two payloads are in the operand bases of a signature
abbrev pub fits_at : Meaning → Option Signature → ℕ → ℕ → Bool
fits_at m None p q = false
fits_at m (Some s) p q = m.holds s.first p && m.holds s.second q

-- whether two payloads are operands that an operation takes
abbrev pub fits : Meaning → ℕ → ℕ → ℕ → Bool
fits m o p q = fits_at m (m.signature o) p q

-- the three bases of a signature are bases of the set
abbrev pub StatedAt : Meaning → Option Signature → Type 0
StatedAt m None = Unit {0}
StatedAt m (Some s) = (s.first < m.bases) × (s.second < m.bases) × (s.result < m.bases)

-- operands of the stated bases give a result below 2^24 in the stated base
abbrev pub ClosedAt : Meaning → ℕ → Option Signature → Type 0
ClosedAt m o None = Unit {0}
ClosedAt m o (Some s) =
    (p q : ℕ) → m.holds s.first p ≡ true → m.holds s.second q ≡ true →
    (m.holds s.result (m.result o p q) ≡ true) × (m.result o p q < 2 ^ 24)

-- The law of a quantity set.
pub record Lawful (m : Meaning) : Type 0 where
  -- there are 1 to 8 bases
  pub few : (1 ≤ m.bases) × (m.bases ≤ 8)
  -- no payload is in a base from the number of bases on, and none from 2^24 on is in any base
  pub held : (k p : ℕ) → m.holds k p ≡ true → (k < m.bases) × (p < 2 ^ 24)
  -- a signature names bases of the set
  pub stated : (o : ℕ) → StatedAt m (m.signature o)
  -- an operation without a signature, or with operands that it does not take, gives 0
  pub otherwise : (o p q : ℕ) → fits m o p q ≡ false → m.result o p q ≡ 0
  -- the closure law
  pub closed : (o : ℕ) → ClosedAt m o (m.signature o)
