-- Words written into a slice.
use Rattle.std.specs.Prelude.{◌≡◌, ℕ, suc, ◌+◌, ◌<◌, ◌≤◌, List, ◌++◌, length, take, drop, Option, MatchOption}

-- `new` is written into a slice from `at` up to `e`: in front of it and behind it all is as it was
pub record Put (out : List ℕ) (at : ℕ) (new out' : List ℕ) (e : ℕ) : Type 0 where
  pub ends : e ≡ at + length new
  pub room : e ≤ length out'
  pub front : take e out' ≡ take at out ++ new
  pub behind : drop e out' ≡ drop e out

-- it is written up to the place answered, or does not fit
abbrev pub Wrote : Option ℕ → List ℕ → ℕ → List ℕ → List ℕ → Type 0
Wrote r out at new out' = MatchOption r (length out < at + length new) (λ e. Put out at new out' e)

-- the same, where a place behind the end of the slice says that it does not fit
pub record Built (out : List ℕ) (at : ℕ) (new out' : List ℕ) (e : ℕ) : Type 0 where
  pub cap : e ≤ suc (length out)
  pub same : length out' ≡ length out
  pub put : e ≤ length out → Put out at new out' e
  pub full : length out < e → length out < at + length new
