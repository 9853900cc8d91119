-- The kind that a number is answered with.
use Rattle.std.specs.Prelude.{◌≡◌, ℕ, ◌≤◌, Result, MatchResult, ok_or}
use Rattle.words.specs.declared.kinds.Kind.{Kind}
use Rattle.words.specs.declared.kinds.UnknownKind.{UnknownKind}
use Rattle.words.specs.Kinds.{number_of, kind_at}

pub record Numbered (number : ℕ) (result : Result Kind UnknownKind) : Type 0 where
  -- the kind at this number in the list of kinds, or an error that names the number
  pub kind : result ≡ ok_or (kind_at number) (record { number = number })
  -- the number is the kind's; it is 24 or more where there is none
  pub own : MatchResult result (λ k. number ≡ number_of k) (λ e. 24 ≤ number)
