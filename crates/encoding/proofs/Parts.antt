-- A term by its parts: its words, its size and its fields, and induction by parts.
use Rattle.std.proofs.Common.{◌≡◌, suc, List, [], ◌∷◌, ◌++◌, length, sym, refl, ap, ◌∙◌, append_assoc, append-nil, arith, length-append}
use Rattle.std.specs.List.{AllByRecursion}
use Rattle.calculus.specs.Terms.{Term, unit, variable, abstraction, coroutine, application, yield, start, resume, snapshot, fix, atom, operation, instance, resumption, suspension}
use Rattle.calculus.specs.Parts.{parts, size, sizes}
use Rattle.layout.specs.Layout.{word_of}
use Rattle.encoding.specs.Encoding.{first_word, encode, encodes, FirstFits, Fits}

-- a term is its first word and then its parts
pub encode_is : (t : Term) → encode t ≡ word_of (first_word t) ∷ encodes (parts t)
encode_is unit = refl
encode_is (variable n) = refl
encode_is (abstraction x r b) = simp append-nil
encode_is (coroutine x r b) = simp append-nil
encode_is (application f a) = simp append-nil
encode_is (yield t) = simp append-nil
encode_is (start i f a) = simp append-nil
encode_is (resume a b c d) = simp append-nil
encode_is (snapshot t) = simp append-nil
encode_is (fix t) = simp append-nil
encode_is (atom k p) = refl
encode_is (operation o a b) = simp append-nil
encode_is (instance l r) = refl
encode_is (resumption l a b c d) = simp append-nil
encode_is (suspension t v) = simp append-nil

-- its size is one word and the sizes of its parts
pub size_is : (t : Term) → size t ≡ suc (sizes (parts t))
size_is unit = refl
size_is (variable n) = refl
size_is (abstraction x r b) = omega arith
size_is (coroutine x r b) = omega arith
size_is (application f a) = omega arith
size_is (yield t) = omega arith
size_is (start i f a) = omega arith
size_is (resume a b c d) = omega arith
size_is (snapshot t) = omega arith
size_is (fix t) = omega arith
size_is (atom k p) = refl
size_is (operation o a b) = omega arith
size_is (instance l r) = refl
size_is (resumption l a b c d) = omega arith
size_is (suspension t v) = omega arith

-- what holds of a term whenever it holds of its parts holds of every term
module _ (P : Term → Type 0) (step : (t : Term) → AllByRecursion P (parts t) → P t) where
  pub by_parts : (t : Term) → P t
  by_parts unit = step unit tt
  by_parts (variable n) = step (variable n) tt
  by_parts (abstraction x r b) = step (abstraction x r b) (by_parts b, tt)
  by_parts (coroutine x r b) = step (coroutine x r b) (by_parts b, tt)
  by_parts (application f a) = step (application f a) (by_parts f, (by_parts a, tt))
  by_parts (yield t) = step (yield t) (by_parts t, tt)
  by_parts (start i f a) = step (start i f a) (by_parts f, (by_parts a, tt))
  by_parts (resume a b c d) = step (resume a b c d) (by_parts a, (by_parts b, (by_parts c, (by_parts d, tt))))
  by_parts (snapshot t) = step (snapshot t) (by_parts t, tt)
  by_parts (fix t) = step (fix t) (by_parts t, tt)
  by_parts (atom k p) = step (atom k p) tt
  by_parts (operation o a b) = step (operation o a b) (by_parts a, (by_parts b, tt))
  by_parts (instance l r) = step (instance l r) tt
  by_parts (resumption l a b c d) = step (resumption l a b c d) (by_parts a, (by_parts b, (by_parts c, (by_parts d, tt))))
  by_parts (suspension t v) = step (suspension t v) (by_parts t, (by_parts v, tt))

-- a term fits exactly if its first word does and its parts do
pub fits_parts : (t : Term) → Fits t → FirstFits t × AllByRecursion Fits (parts t)
fits_parts unit h = (h, tt)
fits_parts (variable n) h = (h, tt)
fits_parts (abstraction x r b) h = (h.0, (h.1, tt))
fits_parts (coroutine x r b) h = (h.0, (h.1, tt))
fits_parts (application f a) h = (h.0, (h.1, (h.2, tt)))
fits_parts (yield t) h = (h.0, (h.1, tt))
fits_parts (start i f a) h = (h.0, (h.1, (h.2, tt)))
fits_parts (resume a b c d) h = (h.0, (h.1, (h.2, (h.3, (h.4, tt)))))
fits_parts (snapshot t) h = (h.0, (h.1, tt))
fits_parts (fix t) h = (h.0, (h.1, tt))
fits_parts (atom k p) h = (h, tt)
fits_parts (operation o a b) h = (h.0, (h.1, (h.2, tt)))
fits_parts (instance l r) h = (h, tt)
fits_parts (resumption l a b c d) h = (h.0, (h.1, (h.2, (h.3, (h.4, tt)))))
fits_parts (suspension t v) h = (h.0, (h.1, (h.2, tt)))

pub parts_fit : (t : Term) → FirstFits t → AllByRecursion Fits (parts t) → Fits t
parts_fit unit h a = h
parts_fit (variable n) h a = h
parts_fit (abstraction x r b) h a = (h, a.0)
parts_fit (coroutine x r b) h a = (h, a.0)
parts_fit (application f u) h a = (h, a.0, a.1.0)
parts_fit (yield t) h a = (h, a.0)
parts_fit (start i f u) h a = (h, a.0, a.1.0)
parts_fit (resume t u v w) h a = (h, a.0, a.1.0, a.1.1.0, a.1.1.1.0)
parts_fit (snapshot t) h a = (h, a.0)
parts_fit (fix t) h a = (h, a.0)
parts_fit (atom k p) h a = h
parts_fit (operation o t u) h a = (h, a.0, a.1.0)
parts_fit (instance l r) h a = h
parts_fit (resumption l t u v w) h a = (h, a.0, a.1.0, a.1.1.0, a.1.1.1.0)
parts_fit (suspension t v) h a = (h, a.0, a.1.0)

-- a term has as many words as its size says
Sized : Term → Type 0
Sized t = length (encode t) ≡ size t

sized_all : (ts : List Term) → AllByRecursion Sized ts → length (encodes ts) ≡ sizes ts
unfolding Sized
sized_all [] a = refl
sized_all (t ∷ ts) a = omega (arith, length-append (encode t) (encodes ts), a.0, sized_all ts a.1)

sized_step : (t : Term) → AllByRecursion Sized (parts t) → Sized t
unfolding Sized
sized_step t a = ap length (encode_is t) ∙ ap suc (sized_all (parts t) a) ∙ sym (size_is t)

pub length_encode : (t : Term) → length (encode t) ≡ size t
unfolding Sized
length_encode t = by_parts Sized sized_step t

pub encodes_append : (ts us : List Term) → encodes (ts ++ us) ≡ encodes ts ++ encodes us
encodes_append [] us = refl
encodes_append (t ∷ ts) us = rw (encodes_append ts us, append_assoc)
