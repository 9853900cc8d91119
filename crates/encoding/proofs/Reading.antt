-- The terms that words stand for, read from the end of the words, and that there is one reading only.
use Rattle.std.proofs.Common.{◌≡◌, ℕ, List, [], ◌∷◌, ◌++◌, length, sym, refl, ap, ◌∙◌, append_assoc}
use Rattle.std.specs.List.{AllByRecursion}
use Rattle.std.proofs.lemmas.List.{append_cancel_left, drop_at}
use Rattle.calculus.specs.Terms.{Term}
use Rattle.calculus.specs.Parts.{parts}
use Rattle.encoding.specs.Encoding.{encode, encodes, Fits}
use Rattle.encoding.specs.Laws.{Unique}
use Rattle.encoding.proofs.Parts.{encode_is, by_parts, fits_parts}
use Rattle.encoding.specs.Decoding.{terms_in}
use Rattle.encoding.proofs.FirstWord.{first_of}

Read : Term → Type 0
Read t = Fits t → (rest : List ℕ) → terms_in (encode t ++ rest) ≡ t ∷ terms_in rest

read_all : (ts : List Term) → AllByRecursion Read ts → AllByRecursion Fits ts → (rest : List ℕ) → terms_in (encodes ts ++ rest) ≡ ts ++ terms_in rest
unfolding Read
read_all [] a f rest = refl
read_all (t ∷ ts) a f rest =
    rw append_assoc (a.0 f.0 (encodes ts ++ rest) ∙ ap (λ us. t ∷ us) (read_all ts a.1 f.1 rest))

read_step : (t : Term) → AllByRecursion Read (parts t) → Read t
unfolding Read
read_step t a f rest =
    let b = fits_parts t f in
    let h = first_of t b.0 in
    let k = read_all (parts t) a b.1 rest in
    let d = drop_at (parts t) (terms_in rest) (length (parts t)) refl in
    rw (encode_is t, k, h.reads, h.counts, h.back (terms_in rest)) (ap (λ us. t ∷ us) d)

pub terms_in_encode : (t : Term) → Fits t → (rest : List ℕ) → terms_in (encode t ++ rest) ≡ t ∷ terms_in rest
unfolding Read
terms_in_encode t = by_parts Read read_step t

pub unique : Unique
unique t u f g r s e =
    let k = terms_in_encode t f r in
    let l = terms_in_encode u g s in
    let m : t ∷ terms_in r ≡ u ∷ terms_in s = sym k ∙ ap terms_in e ∙ l in
    let same : t ≡ u = cc in
    (same, append_cancel_left (encode t) r s (e ∙ ap (λ x. encode x ++ s) (sym same)))
