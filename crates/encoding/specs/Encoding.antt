-- The words of a term: its first word, and then the words of its parts in order.
use Rattle.std.specs.Prelude.{◌≡◌, ℕ, ◌+◌, true, List, [], ◌∷◌, ◌++◌, take, drop}
use Rattle.calculus.specs.Terms.{Term, unit, variable, abstraction, coroutine, application, yield, start, resume, snapshot, fix, atom, operation, instance, resumption, suspension}
use Rattle.calculus.specs.Parts.{size}
use Rattle.layout.specs.declared.Word.{Word}
use Rattle.layout.specs.declared.Word.TheVariants as W
use Rattle.layout.specs.Layout.{fields_of, fit, word_of}

-- the first word of a term, by its kind and its fields
abbrev pub first_word : Term → Word
first_word unit = W.Unit
first_word (variable n) = W.Variable n
first_word (abstraction x r b) = W.Abstraction x r
first_word (coroutine x r b) = W.Coroutine x r
first_word (application f a) = W.Application
first_word (yield t) = W.Yield
first_word (start i f a) = W.Start i
first_word (resume a b c d) = W.Resume
first_word (snapshot t) = W.Snapshot
first_word (fix t) = W.Fix
first_word (atom k p) = W.Atom k p
first_word (operation o a b) = W.Operation o
first_word (instance l r) = W.Instance l r
first_word (resumption l a b c d) = W.Resumption l
first_word (suspension t v) = W.Suspension

-- the words of a term
abbrev pub encode : Term → List ℕ
encode unit = word_of (first_word unit) ∷ []
encode (variable n) = word_of (first_word (variable n)) ∷ []
encode (abstraction x r b) = word_of (first_word (abstraction x r b)) ∷ encode b
encode (coroutine x r b) = word_of (first_word (coroutine x r b)) ∷ encode b
encode (application f a) = word_of (first_word (application f a)) ∷ (encode f ++ encode a)
encode (yield t) = word_of (first_word (yield t)) ∷ encode t
encode (start i f a) = word_of (first_word (start i f a)) ∷ (encode f ++ encode a)
encode (resume a b c d) = word_of (first_word (resume a b c d)) ∷ (encode a ++ (encode b ++ (encode c ++ encode d)))
encode (snapshot t) = word_of (first_word (snapshot t)) ∷ encode t
encode (fix t) = word_of (first_word (fix t)) ∷ encode t
encode (atom k p) = word_of (first_word (atom k p)) ∷ []
encode (operation o a b) = word_of (first_word (operation o a b)) ∷ (encode a ++ encode b)
encode (instance l r) = word_of (first_word (instance l r)) ∷ []
encode (resumption l a b c d) = word_of (first_word (resumption l a b c d)) ∷ (encode a ++ (encode b ++ (encode c ++ encode d)))
encode (suspension t v) = word_of (first_word (suspension t v)) ∷ (encode t ++ encode v)

-- the words of terms one after another
abbrev pub encodes : List Term → List ℕ
encodes [] = []
encodes (t ∷ ts) = encode t ++ encodes ts

-- each field of the first word fits its bits
abbrev pub FirstFits : Term → Type 0
FirstFits t = fit (fields_of (first_word t)) ≡ true

-- each field of the term and of all its parts fits its bits
abbrev pub Fits : Term → Type 0
Fits unit = FirstFits unit
Fits (variable n) = FirstFits (variable n)
Fits (abstraction x r b) = FirstFits (abstraction x r b) × Fits b
Fits (coroutine x r b) = FirstFits (coroutine x r b) × Fits b
Fits (application f a) = FirstFits (application f a) × Fits f × Fits a
Fits (yield t) = FirstFits (yield t) × Fits t
Fits (start i f a) = FirstFits (start i f a) × Fits f × Fits a
Fits (resume a b c d) = FirstFits (resume a b c d) × Fits a × Fits b × Fits c × Fits d
Fits (snapshot t) = FirstFits (snapshot t) × Fits t
Fits (fix t) = FirstFits (fix t) × Fits t
Fits (atom k p) = FirstFits (atom k p)
Fits (operation o a b) = FirstFits (operation o a b) × Fits a × Fits b
Fits (instance l r) = FirstFits (instance l r)
Fits (resumption l a b c d) = FirstFits (resumption l a b c d) × Fits a × Fits b × Fits c × Fits d
Fits (suspension t v) = FirstFits (suspension t v) × Fits t × Fits v

-- a term stands at place i: it fits, and its words are those from there on
abbrev pub Stands : Term → List ℕ → ℕ → Type 0
Stands t ws i = Fits t × (take (size t) (drop i ws) ≡ encode t)

-- terms stand one after another from place i on
abbrev pub AllStand : List Term → List ℕ → ℕ → Type 0
AllStand [] ws i = Unit {0}
AllStand (t ∷ ts) ws i = Stands t ws i × AllStand ts ws (i + size t)
