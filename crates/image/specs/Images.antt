-- Images: the words of a configuration. Word 0 is the head, then come the term and the bindings from 0 up, and zeros to the end.
use Rattle.std.specs.Prelude.{◌≡◌, ℕ, suc, ◌-◌, ◌≤◌, true, false, List, [], ◌∷◌, ◌++◌, length, replicate}
use Rattle.std.specs.List.{AllByRecursion}
use Rattle.calculus.specs.Configurations.{Binding, empty, ready, Bindings, Configuration, Configured}
use Rattle.layout.specs.declared.Word.{Word}
use Rattle.layout.specs.declared.Word.TheVariants as W
use Rattle.layout.specs.Layout.{fields_of, fit, word_of}
use Rattle.encoding.specs.Encoding.{encode, Fits}

-- the first word of a binding: its row, and whether it is ready
abbrev pub binding_word : Binding → Word
binding_word (empty r) = W.Binding false r
binding_word (ready r t) = W.Binding true r

-- the words of a binding: the body follows where it is ready
abbrev pub binding_words : Binding → List ℕ
binding_words (empty r) = word_of (binding_word (empty r)) ∷ []
binding_words (ready r t) = word_of (binding_word (ready r t)) ∷ encode t

-- the words of the bindings from 0 up
abbrev pub bindings_words : Bindings → List ℕ
bindings_words [] = []
bindings_words (β ∷ μ) = binding_words β ++ bindings_words μ

-- the words after the head: the term, then the bindings
abbrev pub words_of : Configuration → List ℕ
words_of c = encode c.term ++ bindings_words c.bindings

-- how many words a configuration needs, the head included
abbrev pub used : Configuration → ℕ
used c = suc (length (words_of c))

-- the head: how many words are used, and how many bindings there are
abbrev pub head_of : Configuration → ℕ
head_of c = word_of (W.ImageHead (used c) (length c.bindings))

-- the words of a configuration in so many words; those that are not used are zero
abbrev pub image_of : ℕ → Configuration → List ℕ
image_of len c = head_of c ∷ (words_of c ++ replicate (len - used c) 0)

-- the row of a binding fits its bits, and so do the fields of a body
abbrev pub BindingFits : Binding → Type 0
BindingFits (empty r) = fit (fields_of (binding_word (empty r))) ≡ true
BindingFits (ready r t) = (fit (fields_of (binding_word (ready r t))) ≡ true) × Fits t

-- the most bindings and the fewest and most words that an image has
abbrev pub most_bindings : ℕ
most_bindings = 4095

abbrev pub fewest_words : ℕ
fewest_words = 2

abbrev pub most_words : ℕ
most_words = 16384

-- What an image asks of a configuration: it keeps the rules of configurations (labels are below the number of bindings, the last three
-- parts of a resumption and the second of a suspension are values), and each field of the term, of a binding and of a body fits its bits.
pub record Encodable (c : Configuration) : Type 0 where
  pub configured : Configured c.term c.bindings
  pub term_fits : Fits c.term
  pub bindings_fit : AllByRecursion BindingFits c.bindings

-- A configuration fits a length, from 2 to 16,384 words, when it has at most 4,095 bindings and needs no more words.
pub record FitsLength (len : ℕ) (c : Configuration) : Type 0 where
  pub low : fewest_words ≤ len
  pub high : len ≤ most_words
  pub few : length c.bindings ≤ most_bindings
  pub room : used c ≤ len

-- The words are the image of the configuration: it can be encoded, it fits their number, and they are its words.
pub record Image (words : List ℕ) (c : Configuration) : Type 0 where
  pub encodable : Encodable c
  pub fits : FitsLength (length words) c
  pub is : words ≡ image_of (length words) c
