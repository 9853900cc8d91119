-- Steps of a cursor over words, from place i to place e, by what they answer.
use Rattle.std.specs.Prelude.{◌≡◌, ℕ, ◌+◌, ◌<◌, ◌≤◌, List, length, Option, MatchOption, slice_index}
use Rattle.std.specs.Borrow.{Bor}
use Rattle.calculus.specs.Terms.{Term}
use Rattle.calculus.specs.Parts.{size}
use Rattle.encoding.specs.Encoding.{encode, Stands}

-- over a word: the word, or nothing where the words end
abbrev pub OverWord : List ℕ → ℕ → ℕ → Option ℕ → Type 0
OverWord ws i e r =
    MatchOption r ((length ws ≤ i) × (e ≡ i)) (λ w. (i < length ws) × (w ≡ slice_index ws i) × (e ≡ i + 1))

-- over a term: its words, or nothing where no term stands
abbrev pub OverTerm : List ℕ → ℕ → ℕ → Option (Bor (List ℕ)) → Type 0
OverTerm ws i e r =
    MatchOption r (((t : Term) → Stands t ws i → ⊥) × (e ≡ i))
    (λ s. (t : Term) × Stands t ws i × (s.now ≡ encode t) × (e ≡ i + size t))

-- over a term that is known to stand there
abbrev pub OverKnown : List ℕ → ℕ → ℕ → Option (Bor (List ℕ)) → Type 0
OverKnown ws i e r = (t : Term) → Stands t ws i → MatchOption r ⊥ (λ s. s.now ≡ encode t) × (e ≡ i + size t)

-- over a part of the words, as long as what is answered
abbrev pub OverPart : List ℕ → ℕ → ℕ → Option (Bor (List ℕ)) → Type 0
OverPart ws i e r = MatchOption r (e ≡ i) (λ s. (i < e) × (e ≤ length ws) × (e ≡ i + length s.now))
