-- A term put in the place of an occurrence stands there, at the same word.
use Rattle.std.proofs.Common.{◌≡◌, ℕ, zero, suc, ◌+◌, List, [], ◌∷◌, length, get_or, take, Some, sym, refl, ap, ◌∙◌, arith}
use Rattle.calculus.specs.Lists.{at, put}
use Rattle.calculus.specs.Terms.{Term, unit, variable, abstraction, coroutine, application, yield, start, resume, snapshot, fix, atom, operation, instance, resumption, suspension}
use Rattle.calculus.specs.Parts.{parts, with_parts, size, sizes}
use Rattle.calculus.specs.Occurrences.{Position, term_at, word_at, put_at, Parted, part_here, part_below}
use Rattle.calculus.specs.StatementsOfPlaces.{PutInPlace}
use Rattle.calculus.proofs.Occurrences.{in_part, part_term, same_part_term, word_part}
use Rattle.calculus.proofs.Configured.{put_length}
use Rattle.calculus.proofs.Words.{size_parts}
use Rattle.calculus.proofs.Turns.{put_other, put_there}

-- lists of a known length, by their entries
module _ {A : Type 0} where
  none_of : (ts : List A) → length ts ≡ 0 → [] ≡ ts
  none_of [] e = refl
  none_of (x ∷ ts) e = absurd (omega arith)

  one_of : (ts : List A) (a : A) → length ts ≡ 1 → get_or ts 0 a ∷ [] ≡ ts
  one_of [] a e = absurd (omega arith)
  one_of (x ∷ []) a e = refl
  one_of (x ∷ y ∷ ts) a e = absurd (omega arith)

  two_of : (ts : List A) (a b : A) → length ts ≡ 2 → get_or ts 0 a ∷ get_or ts 1 b ∷ [] ≡ ts
  two_of [] a b e = absurd (omega arith)
  two_of (x ∷ []) a b e = absurd (omega arith)
  two_of (x ∷ y ∷ []) a b e = refl
  two_of (x ∷ y ∷ z ∷ ts) a b e = absurd (omega arith)

  four_of : (ts : List A) (a b c d : A) → length ts ≡ 4 → get_or ts 0 a ∷ get_or ts 1 b ∷ get_or ts 2 c ∷ get_or ts 3 d ∷ [] ≡ ts
  four_of [] a b c d e = absurd (omega arith)
  four_of (x ∷ []) a b c d e = absurd (omega arith)
  four_of (x ∷ y ∷ []) a b c d e = absurd (omega arith)
  four_of (x ∷ y ∷ z ∷ []) a b c d e = absurd (omega arith)
  four_of (x ∷ y ∷ z ∷ w ∷ []) a b c d e = refl
  four_of (x ∷ y ∷ z ∷ w ∷ v ∷ ts) a b c d e = absurd (omega arith)

-- as many parts as a term has become its parts
pub parts_with : (t : Term) (ts : List Term) → length ts ≡ length (parts t) → parts (with_parts t ts) ≡ ts
parts_with unit ts e = none_of ts e
parts_with (variable n) ts e = none_of ts e
parts_with (abstraction x r b) ts e = one_of ts b e
parts_with (coroutine x r b) ts e = one_of ts b e
parts_with (application f a) ts e = two_of ts f a e
parts_with (yield t) ts e = one_of ts t e
parts_with (start i f a) ts e = two_of ts f a e
parts_with (resume a b c d) ts e = four_of ts a b c d e
parts_with (snapshot t) ts e = one_of ts t e
parts_with (fix t) ts e = one_of ts t e
parts_with (atom k p) ts e = none_of ts e
parts_with (operation o a b) ts e = two_of ts a b e
parts_with (instance l r) ts e = none_of ts e
parts_with (resumption l a b c d) ts e = four_of ts a b c d e
parts_with (suspension t v) ts e = two_of ts t v e

take_put : (ts : List Term) (k : ℕ) (u : Term) → take k (put ts k u) ≡ take k ts
take_put [] k u = refl
take_put (t ∷ ts) zero u = refl
take_put (t ∷ ts) (suc k) u = ap (λ us. t ∷ us) (take_put ts k u)

sizes_put : (ts : List Term) (k : ℕ) (u s : Term) → at ts k ≡ Some u → sizes (put ts k s) + size u ≡ sizes ts + size s
sizes_put [] k u s e = let z : ◌≡◌ {A = ℕ} 0 1 = cc in absurd (omega arith)
sizes_put (t ∷ ts) zero u s e = let z : t ≡ u = cc in let y : size t ≡ size u = ap size z in omega arith
sizes_put (t ∷ ts) (suc k) u s e = let h = sizes_put ts k u s e in omega arith

-- the parts of the new term: part k is the new one
module _ (t u s : Term) (k : ℕ) (q : Position) (e : at (parts t) k ≡ Some u) where
  new_parts : parts (put_at t (k ∷ q) s) ≡ put (parts t) k (put_at u q s)
  new_parts = rw (e, put_at) (parts_with t (put (parts t) k (put_at u q s)) (put_length (parts t) k (put_at u q s)))

  new_part : at (parts (put_at t (k ∷ q) s)) k ≡ Some (put_at u q s)
  new_part = rw new_parts (put_there (parts t) k (put_at u q s) u e)

  parts_before : sizes (take k (parts (put_at t (k ∷ q) s))) ≡ sizes (take k (parts t))
  parts_before = rw new_parts (ap sizes (take_put (parts t) k (put_at u q s)))

  new_size : size (put_at t (k ∷ q) s) + size u ≡ size t + size (put_at u q s)
  new_size =
      let a = size_parts t in let b = size_parts (put_at t (k ∷ q) s) in
      let c = sizes_put (parts t) k u (put_at u q s) e in let d = ap sizes new_parts in omega arith

-- what occurs elsewhere stays
stays : {p q : Position} → Parted p q → (t u s : Term) → term_at t p ≡ Some u → term_at (put_at t p s) q ≡ term_at t q
stays (part_here {j = j} {k = k} {p = p} {q = q} n) t u s e =
    let i = in_part t j p u e in
    same_part_term (put_at t (j ∷ p) s) t k q
    (ap (λ ts. at ts k) (new_parts t i.0 s j p i.1) ∙ put_other (parts t) j (put_at i.0 p s) k λ z. n (sym z))
stays (part_below {k = k} {p = p} {q = q} h) t u s e =
    let i = in_part t k p u e in
    part_term (put_at t (k ∷ p) s) (put_at i.0 p s) k q (new_part t i.0 s k p i.1) ∙
    (stays h i.0 u s i.2 ∙ sym (part_term t i.0 k q i.1))

put_in : (p : Position) (t u s : Term) → term_at t p ≡ Some u →
    (term_at (put_at t p s) p ≡ Some s) × (word_at (put_at t p s) p ≡ word_at t p) × (size (put_at t p s) + size u ≡ size t + size s)
put_in [] t u s e = let z : t ≡ u = cc in let y : size t ≡ size u = ap size z in (refl, refl, omega arith)
put_in (k ∷ q) t u s e =
    let i = in_part t k q u e in
    let h = put_in q i.0 u s i.2 in
    let n = new_part t i.0 s k q i.1 in
    let w = word_part t i.0 k q i.1 in
    let w' = word_part (put_at t (k ∷ q) s) (put_at i.0 q s) k q n in
    let b = parts_before t i.0 s k q i.1 in
    let z = new_size t i.0 s k q i.1 in
    let x = h.1 in let y = h.2 in
    (part_term (put_at t (k ∷ q) s) (put_at i.0 q s) k q n ∙ h.0, omega arith, omega arith)

pub put_in_place : PutInPlace
put_in_place t u s p e = let k = put_in p t u s e in (k.0, k.1, k.2, λ q h. stays h t u s e)
