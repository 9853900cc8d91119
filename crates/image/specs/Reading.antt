-- Reading an image: which words are one, and the configuration that they stand for.
use Rattle.std.specs.Prelude.{ℕ, zero, suc, ◌+◌, ◌/◌, ◌%◌, ◌^◌, Bool, true, false, cond, ◌&&◌, ◌||◌, List, [], ◌∷◌, length, drop, Some, None, Option, ◌==◌, nat_le, nat_lt, slice_index_or}
use Rattle.std.specs.List.{list_all}
use Rattle.calculus.specs.Terms.{Term, unit}
use Rattle.calculus.specs.Parts.{size}
use Rattle.calculus.specs.Configurations.{empty, ready, Bindings, Configuration, ◌∣◌}
use Rattle.encoding.specs.Scanning.{arity_of, is_term_word}
use Rattle.encoding.specs.Decoding.{terms_in}
use Rattle.image.specs.Images.{fewest_words, most_words}

-- the kind, the label and the row that a word has at their bits
abbrev pub kind_at : ℕ → ℕ
kind_at w = w / 2 ^ 27

abbrev pub label_at : ℕ → ℕ
label_at w = w % 2 ^ 12

abbrev pub row_at : ℕ → ℕ
row_at w = w / 2 ^ 12 % 2 ^ 9

-- whether a kind is one of values: unit, abstraction, coroutine, atom, instance
abbrev pub value_kind : ℕ → Bool
value_kind k = k == 0 || (k == 2 || (k == 3 || (k == 10 || k == 12)))

-- whether the word of a value stands after so many terms
abbrev pub value_after : ℕ → List ℕ → Bool
value_after k [] = false
value_after zero (w ∷ ws) = value_kind (kind_at w)
value_after (suc k) (w ∷ ws) = value_after (k + arity_of w) ws

-- whether the label of an instance or a resumption is below n
abbrev pub label_below : ℕ → ℕ → Bool
label_below n w = cond (kind_at w == 12 || kind_at w == 13) (nat_lt (label_at w) n) true

-- whether the parts of a word that have to be values are: the last three of a resumption, the second of a suspension
abbrev pub values_follow : ℕ → List ℕ → Bool
values_follow w ws =
    cond (kind_at w == 13) (value_after 1 ws && (value_after 2 ws && value_after 3 ws))
    (cond (kind_at w == 14) (value_after 1 ws) true)

-- whether a word may stand in a term of an image with n bindings, before the words ws
abbrev pub may_stand : ℕ → ℕ → List ℕ → Bool
may_stand n w ws = is_term_word w && (label_below n w && values_follow w ws)

-- whether a word is that of a binding
abbrev pub is_binding : ℕ → Bool
is_binding w = kind_at w == 15 && (nat_lt (w % 2 ^ 12) 2 && nat_lt (w / 2 ^ 12 % 2 ^ 15) (2 ^ 9))

-- From place i on stand p terms and then b bindings, each ready one with its body: the place after them, or nothing where a word may not
-- stand. There are n bindings in all, which labels are below.
abbrev pub reach : ℕ → ℕ → ℕ → ℕ → List ℕ → Option ℕ
reach n zero zero i ws = Some i
reach n zero (suc b) i [] = None
reach n zero (suc b) i (w ∷ ws) = cond (is_binding w) (reach n (w % 2) b (i + 1) ws) None
reach n (suc p) b i [] = None
reach n (suc p) b i (w ∷ ws) = cond (may_stand n w ws) (reach n (p + arity_of w) b (i + 1) ws) None

-- whether all words are zero
abbrev pub all_zero : List ℕ → Bool
all_zero ws = list_all (λ w. w == 0) ws

-- the numbers of used words and of bindings that a head has
abbrev pub used_at : ℕ → ℕ
used_at w = w % 2 ^ 15

abbrev pub bindings_at : ℕ → ℕ
bindings_at w = w / 2 ^ 15 % 2 ^ 12

-- whether the term and the bindings end where the head says, and zeros follow
abbrev pub ends_as_said : ℕ → Option ℕ → List ℕ → Bool
ends_as_said w None ws = false
ends_as_said w (Some e) ws = e == used_at w && all_zero (drop e ws)

-- whether words with this head are an image, their length apart
abbrev pub headed : List ℕ → Bool
headed [] = false
headed (w ∷ ws) = kind_at w == 23 && ends_as_said w (reach (bindings_at w) 1 (bindings_at w) 1 ws) (w ∷ ws)

-- whether words are an image
abbrev pub is_image : List ℕ → Bool
is_image ws = nat_le fewest_words (length ws) && (nat_le (length ws) most_words && headed ws)

-- the term at the front of words
abbrev pub term_in : List ℕ → Term
term_in ws = slice_index_or (terms_in ws) 0 unit

-- so many bindings at the front of words
abbrev pub bindings_in : ℕ → List ℕ → Bindings
bindings_in zero ws = []
bindings_in (suc n) [] = []
bindings_in (suc n) (w ∷ ws) =
    cond (w % 2 == 1) (ready (row_at w) (term_in ws) ∷ bindings_in n (drop (size (term_in ws)) ws))
    (empty (row_at w) ∷ bindings_in n ws)

-- the configuration with this head, in the words behind it
abbrev pub configuration_in : List ℕ → Configuration
configuration_in [] = unit ∣ []
configuration_in (w ∷ ws) = term_in ws ∣ bindings_in (bindings_at w) (drop (size (term_in ws)) ws)

-- the configuration whose image the words are, if they are one
abbrev pub reading : List ℕ → Option Configuration
reading ws = cond (is_image ws) (Some (configuration_in ws)) None
