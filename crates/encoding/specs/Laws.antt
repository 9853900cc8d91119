-- What holds of the words of terms.
use Rattle.std.specs.Prelude.{◌≡◌, ℕ, ◌+◌, true, ◌↔◌, List, ◌∷◌, ◌++◌, length, drop, Some}
use Rattle.calculus.specs.Terms.{Term}
use Rattle.calculus.specs.Parts.{parts, size}
use Rattle.layout.specs.Layout.{word_of}
use Rattle.encoding.specs.Encoding.{first_word, encode, encodes, FirstFits, Fits, Stands, AllStand}
use Rattle.encoding.specs.Depths.{depth, depths, greatest}
use Rattle.encoding.specs.Scanning.{arity_of, is_term_word, scan}

-- no two terms have the same words, and no term's words are the beginning of another's
abbrev pub Unique : Type 0
Unique = (t u : Term) → Fits t → Fits u → (r s : List ℕ) → encode t ++ r ≡ encode u ++ s → (t ≡ u) × (r ≡ s)

-- the scan of one term from place i on ends at e exactly if a term stands at i and ends at e
abbrev pub WordsOfTerms : Type 0
WordsOfTerms =
    (ws : List ℕ) (i e : ℕ) → (scan 1 i (drop i ws) ≡ Some e) ↔ ((t : Term) × Stands t ws i × (e ≡ i + size t))

-- a term is its first word and then the words of its parts, as many as its size says
abbrev pub MadeOfParts : Type 0
MadeOfParts = (t : Term) → (encode t ≡ word_of (first_word t) ∷ encodes (parts t)) × (length (encode t) ≡ size t)

-- the first word of a term is known for one, and says how many parts follow
abbrev pub FirstWords : Type 0
FirstWords =
    (t : Term) → FirstFits t →
    (is_term_word (word_of (first_word t)) ≡ true) × (arity_of (word_of (first_word t)) ≡ length (parts t))

-- the parts of a term that stands at place i stand one after another behind its first word
abbrev pub PartsStand : Type 0
PartsStand = (t : Term) (ws : List ℕ) (i : ℕ) → Stands t ws i → AllStand (parts t) ws (i + 1)

-- each word of a term has a depth, and the greatest is the term's
abbrev pub WordDepths : Type 0
WordDepths = (t : Term) → (length (depths t) ≡ size t) × (greatest (depths t) ≡ depth t)
