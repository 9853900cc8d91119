-- The lines of a step on the words of an image.
use Rattle.std.specs.Prelude.{◌≡◌, ℕ, ◌+◌, ◌-◌, List, ◌++◌, length, drop, replicate, Some, None, Option, MatchOption}
use Rattle.std.specs.List.{between}
use Rattle.calculus.specs.Terms.{Term}
use Rattle.calculus.specs.Parts.{size}
use Rattle.calculus.specs.Configurations.{Configuration, ◌∣◌}
use Rattle.encoding.specs.Encoding.{encode}
use Rattle.image.specs.Images.{bindings_words, words_of, used, Image}
use Rattle.image.specs.Places.{Right}
use Rattle.writing.specs.Writing.{Built}

-- The term u stands at place p of the image of c, and K puts another term in its place.
pub record Hole (image : List ℕ) (c : Configuration) (p : ℕ) (u : Term) (K : Term → Term) : Type 0 where
  pub is : Image image c
  pub before : List ℕ
  pub behind : List ℕ
  pub right : Right (length c.bindings) u
  pub words : (x : Term) → encode (K x) ≡ before ++ (encode x ++ behind)
  pub front : between 1 p image ≡ before
  pub here : drop p image ≡ encode u ++ (behind ++ (bindings_words c.bindings ++ replicate (length image - used c) 0))
  pub fill : used c ≡ p + size u + length behind + length (bindings_words c.bindings)

-- what a line gives in the place of its term is written from word 1 on, or the line does not apply
abbrev pub Lined : Option ℕ → List ℕ → List ℕ → (Term → Term) → Option Configuration → Type 0
Lined r spare spare' K ℓ =
    MatchOption r (ℓ ≡ None)
    (λ e. (d : Configuration) × (ℓ ≡ Some d) × Built spare 1 (words_of (K d.term ∣ d.bindings)) spare' e)

-- the successor's words are written from word 1 up to the first number, and it has as many bindings as the second says; or there is none
abbrev pub Turned : Option (ℕ × ℕ) → List ℕ → List ℕ → Option Configuration → Type 0
Turned o spare spare' ℓ =
    MatchOption o (ℓ ≡ None)
    (λ l. (d : Configuration) × (ℓ ≡ Some d) × (l.1 ≡ length d.bindings) × Built spare 1 (words_of d) spare' l.0)
