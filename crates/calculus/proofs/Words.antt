-- The words of a term: its own and those of its parts; those of an occurrence lie among those of the term.
use Rattle.std.proofs.Common.{◌≡◌, ℕ, zero, suc, ◌+◌, ◌<◌, ◌≤◌, List, [], ◌∷◌, take, Some, sym, refl, ap, ◌∙◌, ap₂, arith}
use Rattle.calculus.specs.Lists.{at}
use Rattle.calculus.specs.Terms.{Term, unit, variable, abstraction, coroutine, application, yield, start, resume, snapshot, fix, atom, operation, instance, resumption, suspension}
use Rattle.calculus.specs.Parts.{parts, size, sizes}
use Rattle.calculus.specs.Occurrences.{Position, term_at, word_at}
use Rattle.calculus.specs.Places.{path, place}
use Rattle.calculus.specs.StatementsOfPlaces.{WordsWithin}
use Rattle.calculus.proofs.Occurrences.{in_part, word_part}
use Rattle.calculus.proofs.PathEntered.{path_entered}

pub size_parts : (t : Term) → size t ≡ suc (sizes (parts t))
size_parts unit = refl
size_parts (variable n) = refl
size_parts (abstraction x r b) = omega arith
size_parts (coroutine x r b) = omega arith
size_parts (application f a) = omega arith
size_parts (yield t) = omega arith
size_parts (start i f a) = omega arith
size_parts (resume a b c d) = omega arith
size_parts (snapshot t) = omega arith
size_parts (fix t) = omega arith
size_parts (atom k p) = refl
size_parts (operation o a b) = omega arith
size_parts (instance l r) = refl
size_parts (resumption l a b c d) = omega arith
size_parts (suspension t v) = omega arith

part_within : (ts : List Term) (k : ℕ) (u : Term) → at ts k ≡ Some u → sizes (take k ts) + size u ≤ sizes ts
part_within [] k u e = let z : ◌≡◌ {A = ℕ} 0 1 = cc in absurd (omega arith)
part_within (t ∷ ts) zero u e = let z : t ≡ u = cc in let y : size t ≡ size u = ap size z in omega arith
part_within (t ∷ ts) (suc k) u e = let h = part_within ts k u e in omega arith

occurrence_within : (p : Position) (t u : Term) → term_at t p ≡ Some u → word_at t p + size u ≤ size t
occurrence_within [] t u e = let z : t ≡ u = cc in let y : size t ≡ size u = ap size z in omega arith
occurrence_within (k ∷ q) t u e =
    let i = in_part t k q u e in let h = occurrence_within q i.0 u i.2 in let w = word_part t i.0 k q i.1 in
    let s = part_within (parts t) k i.0 i.1 in let z = size_parts t in omega arith

some_word : (t : Term) → 0 < size t
some_word t = let z = size_parts t in omega arith

-- the parts' words do not overlap
one_part : (ts : List Term) (j k : ℕ) (u v : Term) (m n : ℕ) → at ts j ≡ Some u → at ts k ≡ Some v → m < size u → n < size v →
    sizes (take j ts) + m ≡ sizes (take k ts) + n → j ≡ k
one_part [] j k u v m n e f h g q = let z : ◌≡◌ {A = ℕ} 0 1 = cc in absurd (omega arith)
one_part (t ∷ ts) zero zero u v m n e f h g q = refl
one_part (t ∷ ts) zero (suc k) u v m n e f h g q =
    let z : t ≡ u = cc in let y : size t ≡ size u = ap size z in absurd (omega arith)
one_part (t ∷ ts) (suc j) zero u v m n e f h g q =
    let z : t ≡ v = cc in let y : size t ≡ size v = ap size z in absurd (omega arith)
one_part (t ∷ ts) (suc j) (suc k) u v m n e f h g q = ap suc (one_part ts j k u v m n e f h g (omega arith))

-- an occurrence in a part starts at one of its words
starts_in : (q : Position) (t u : Term) → term_at t q ≡ Some u → word_at t q < size t
starts_in q t u e = let h = occurrence_within q t u e in let z = some_word u in omega arith

-- occurrences in parts that start at one word are in one part, and the same if they are the same there
same_part : (t s r : Term) (j k : ℕ) (p q : Position) → at (parts t) j ≡ Some s → at (parts t) k ≡ Some r → word_at s p < size s →
    word_at r q < size r → sizes (take j (parts t)) + word_at s p ≡ sizes (take k (parts t)) + word_at r q →
    (s ≡ r → word_at s p ≡ word_at r q → p ≡ q) → j ∷ p ≡ k ∷ q
same_part t s r j k p q a b h g z again =
    let y = one_part (parts t) j k s r (word_at s p) (word_at r q) a b h g z in
    let x : s ≡ r = cc in
    let w : sizes (take j (parts t)) ≡ sizes (take k (parts t)) = ap (λ n. sizes (take n (parts t))) y in
    ap₂ (λ n o. n ∷ o) y (again x (omega arith))

one_occurrence : (p q : Position) (t u v : Term) → term_at t p ≡ Some u → term_at t q ≡ Some v → word_at t p ≡ word_at t q → p ≡ q
one_occurrence [] [] t u v e f h = refl
one_occurrence [] (k ∷ q) t u v e f h =
    let i = in_part t k q v f in let w = word_part t i.0 k q i.1 in absurd (omega arith)
one_occurrence (j ∷ p) [] t u v e f h =
    let i = in_part t j p u e in let w = word_part t i.0 j p i.1 in absurd (omega arith)
one_occurrence (j ∷ p) (k ∷ q) t u v e f h =
    let a = in_part t j p u e in let b = in_part t k q v f in
    let x = word_part t a.0 j p a.1 in let y = word_part t b.0 k q b.1 in
    same_part t a.0 b.0 j k p q a.1 b.1 (starts_in p a.0 u a.2) (starts_in q b.0 v b.2) (omega arith)
    λ z w. one_occurrence p q a.0 u v a.2 (ap (λ r. term_at r q) z ∙ b.2) (w ∙ ap (λ r. word_at r q) (sym z))

-- the place of the step is one of the term's words
place_within : (t : Term) → (1 ≤ place t) × (place t ≤ size t)
place_within t = let o = (path_entered t).2 in let h = starts_in (path t) t o.0 o.1 in (omega arith, omega arith)

pub words_within : WordsWithin
words_within = (
  size_parts,
  λ t u p e. occurrence_within p t u e,
  λ t u v p q e f h. one_occurrence p q t u v e f h,
  place_within,
)
