-- How far terms reach, seen from their words: each word says how many terms follow it as its parts.
use Rattle.std.specs.Prelude.{ℕ, zero, suc, ◌+◌, ◌/◌, ◌^◌, Bool, false, cond, List, [], ◌∷◌, Some, None, Option, nat_lt, slice_index}
use Rattle.words.specs.Kinds.{number_of}
use Rattle.layout.specs.declared.Word.{Word}
use Rattle.layout.specs.Layout.{kind_of, read_word}

-- how many parts follow a word of a term, by its kind
abbrev pub part_counts : List ℕ
part_counts = 0 ∷ 0 ∷ 1 ∷ 1 ∷ 2 ∷ 1 ∷ 2 ∷ 4 ∷ 1 ∷ 1 ∷ 0 ∷ 2 ∷ 0 ∷ 4 ∷ 2 ∷ []

-- how many parts follow a word of a term; 0 for kinds that are none of a term
abbrev pub arity_of : ℕ → ℕ
arity_of w = slice_index part_counts (w / 2 ^ 27)

-- whether a word was read, and its kind is one of a term: the kinds 0 to 14
abbrev pub of_term : Option Word → Bool
of_term None = false
of_term (Some x) = nat_lt (number_of (kind_of x)) 15

-- whether a number stands for a word of a term
abbrev pub is_term_word : ℕ → Bool
is_term_word w = of_term (read_word w)

-- the place after so many terms that stand one after another from place i on, if they do
abbrev pub scan : ℕ → ℕ → List ℕ → Option ℕ
scan zero i ws = Some i
scan (suc n) i [] = None
scan (suc n) i (w ∷ ws) = cond (is_term_word w) (scan (n + arity_of w) (i + 1) ws) None
