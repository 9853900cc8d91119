-- The fields of the words that a line reads, and the terms that stand behind them.
use Rattle.std.proofs.Common.{◌≡◌, ℕ, zero, suc, ◌+◌, ◌*◌, ◌/◌, ◌%◌, ◌^◌, ◌<◌, Bool, true, false, ◌&&◌, eqb, ltb, List, ◌++◌, get_or, drop, sym, refl, ap, ◌∙◌, arith}
use Rattle.std.proofs.lemmas.Bool.{and_parts, eqb-true, eqb-false, ltb-true}
use Rattle.calculus.specs.Terms.{Term, abstraction, coroutine, start, atom, operation, instance, resumption}
use Rattle.calculus.specs.Parts.{parts}
use Rattle.calculus.specs.Configurations.{Binding, empty, ready, row_of}
use Rattle.layout.specs.Layout.{word_of}
use Rattle.encoding.specs.Encoding.{first_word, encodes, FirstFits}
use Rattle.encoding.proofs.Parts.{encode_is, fits_parts}
use Rattle.encoding.proofs.FirstWord.{first_of}
use Rattle.image.specs.Images.{binding_word, BindingFits}
use Rattle.image.specs.Places.{At}
use Rattle.image.specs.Reading.{kind_at, label_at, row_at}
use Rattle.writing.proofs.Building.{next_word}
use Rattle.lines.proofs.Sorts.{kind_of_term}

-- the first of two tests
under : (n m : ℕ) (b : Bool) → (ltb n m && b) ≡ true → n < m
under n m b h = ltb-true n m (and_parts (ltb n m) b h).0

beyond : (n m : ℕ) (b : Bool) → (ltb n m && b) ≡ true → b ≡ true
beyond n m b h = (and_parts (ltb n m) b h).1

label_in : (k n r w : ℕ) → n < 2 ^ 12 → w ≡ k * 2 ^ 27 + (n + r * 2 ^ 12) → label_at w ≡ n
label_in k n r w h e = omega arith

row_in : (k n r w : ℕ) → n < 2 ^ 12 → r < 2 ^ 9 → w ≡ k * 2 ^ 27 + (n + r * 2 ^ 12) → row_at w ≡ r
row_in k n r w h g e = omega arith

-- names, labels and rows
pub abstraction_name : (x r : ℕ) (b : Term) → FirstFits (abstraction x r b) → label_at (word_of (first_word (abstraction x r b))) ≡ x
abstraction_name x r b f = label_in 2 x r _ (under x _ _ f) (omega arith)

pub coroutine_name : (x r : ℕ) (b : Term) → FirstFits (coroutine x r b) → label_at (word_of (first_word (coroutine x r b))) ≡ x
coroutine_name x r b f = label_in 3 x r _ (under x _ _ f) (omega arith)

pub start_row : (i : ℕ) (f a : Term) → FirstFits (start i f a) → row_at (word_of (first_word (start i f a))) ≡ i
start_row i f a h = row_in 6 0 i _ (omega arith) (under i _ _ h) (omega arith)

pub instance_label : (l r : ℕ) → FirstFits (instance l r) → label_at (word_of (first_word (instance l r))) ≡ l
instance_label l r f = label_in 12 l r _ (under l _ _ f) (omega arith)

pub resumption_label : (l : ℕ) (a b c d : Term) → FirstFits (resumption l a b c d) → label_at (word_of (first_word (resumption l a b c d))) ≡ l
resumption_label l a b c d f = label_in 13 l 0 _ (under l _ _ f) (omega arith)

pub operation_number : (o : ℕ) (a b : Term) → FirstFits (operation o a b) → word_of (first_word (operation o a b)) % 2 ^ 8 ≡ o
operation_number o a b f = let h = under o _ _ f in omega arith

pub atom_payload : (k p : ℕ) → FirstFits (atom k p) → word_of (first_word (atom k p)) % 2 ^ 24 ≡ p
atom_payload k p f = let h = under p _ _ f in omega arith

pub atom_base : (k p : ℕ) → FirstFits (atom k p) → word_of (first_word (atom k p)) / 2 ^ 24 % 2 ^ 3 ≡ k
atom_base k p f = let h = under p _ _ f in let g = under k _ _ (beyond p _ _ f) in omega arith

-- the row of a binding, and whether it is ready
pub binding_row : (β : Binding) → BindingFits β → row_at (word_of (binding_word β)) ≡ row_of β
binding_row (empty r) f = row_in 15 0 r _ (omega arith) (under r _ _ f) (omega arith)
binding_row (ready r t) f = row_in 15 1 r _ (omega arith) (under r _ _ f.0) (omega arith)

abbrev pub readiness : Binding → ℕ
readiness (empty r) = 0
readiness (ready r t) = 1

pub binding_readiness : (β : Binding) → word_of (binding_word β) % 2 ≡ readiness β
binding_readiness (empty r) = omega arith
binding_readiness (ready r t) = omega arith

-- a test of the kind of a word
pub is_kind : {w v n k : ℕ} → true ≡ eqb (kind_at w) n → w ≡ v → kind_at v ≡ k → k ≡ n
is_kind {w} {v} {n} {k} t e f = sym (ap kind_at e ∙ f) ∙ eqb-true (kind_at w) n (sym t)

pub no_kind : {w v n k : ℕ} → false ≡ eqb (kind_at w) n → w ≡ v → kind_at v ≡ k → k ≡ n → ⊥
no_kind {w} {v} {n} {k} t e f z = eqb-false (kind_at w) n (sym t) (ap kind_at e ∙ f ∙ z)

-- a test of whether a binding is ready
zero_or : (n : ℕ) → n < 2 → (n ≡ 1 → ⊥) → n ≡ 0
zero_or zero h f = refl
zero_or (suc zero) h f = absurd (f refl)
zero_or (suc (suc n)) h f = absurd (omega arith)

pub is_empty : {w v : ℕ} → false ≡ eqb (w % 2) 1 → w ≡ v → v % 2 ≡ 0
is_empty {w} {v} t e = ap (λ n. n % 2) (sym e) ∙ zero_or (w % 2) (omega arith) (eqb-false (w % 2) 1 (sym t))

pub not_empty : {w v : ℕ} → true ≡ eqb (w % 2) 1 → w ≡ v → v % 2 ≡ 0 → ⊥
not_empty {w} {v} t e z = let n = eqb-true (w % 2) 1 (sym t) in omega arith

-- the first word of a term that stands at a place, what follows it, and its kind
module _ (t : Term) (rest : List ℕ) (i : ℕ) (ws : List ℕ) (a : At t rest i ws) where
  pub first_here : (get_or ws i 0 ≡ word_of (first_word t)) × (drop (i + 1) ws ≡ encodes (parts t) ++ rest)
  first_here = next_word ws i _ _ (a.words ∙ ap (λ l. l ++ rest) (encode_is t))

  pub kind_here : kind_at (get_or ws i 0) ≡ kind_of_term t
  kind_here = ap kind_at first_here.0 ∙ (first_of t (fits_parts t a.fits).0).kind
