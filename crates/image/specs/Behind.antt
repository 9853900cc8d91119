-- Words that are behind others, as a slice that shrinks from the front.
use Rattle.std.specs.Prelude.{◌≡◌, ℕ, suc, ◌-◌, ◌≤◌, List, length, drop}

-- the place of `rest`, which is behind some of the words ws that begin at place 1
abbrev pub place : List ℕ → List ℕ → ℕ
place ws rest = suc (length ws - length rest)

-- the words `rest` are behind some of the words ws
pub record Behind (ws rest : List ℕ) : Type 0 where
  pub fewer : length rest ≤ length ws
  pub are : rest ≡ drop (length ws - length rest) ws
