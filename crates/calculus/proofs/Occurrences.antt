-- An occurrence below the root is an occurrence in a part.
use Rattle.std.proofs.Common.{◌≡◌, ℕ, suc, ◌+◌, ◌∷◌, take, Some, None, Option, refl, arith}
use Rattle.calculus.specs.Lists.{at}
use Rattle.calculus.specs.Terms.{Term}
use Rattle.calculus.specs.Parts.{parts, sizes}
use Rattle.calculus.specs.Occurrences.{Position, term_at, word_at}

pub in_part : (t : Term) (k : ℕ) (q : Position) (w : Term) → term_at t (k ∷ q) ≡ Some w →
    (u : Term) × (at (parts t) k ≡ Some u) × (term_at u q ≡ Some w)
in_part t k q w e = go (at (parts t) k) refl e
  where
    go : (o : Option Term) → at (parts t) k ≡ o → elim o [ None ↦ None | Some u ↦ term_at u q ] ≡ Some w →
        (u : Term) × (at (parts t) k ≡ Some u) × (term_at u q ≡ Some w)
    go None h e = let z : ◌≡◌ {A = ℕ} 0 1 = cc in absurd (omega arith)
    go (Some u) h e = (u, h, e)

pub part_term : (t u : Term) (k : ℕ) (q : Position) → at (parts t) k ≡ Some u → term_at t (k ∷ q) ≡ term_at u q
part_term t u k q e = rw (e, term_at)

-- the part decides what occurs in it
pub same_part_term : (w t : Term) (k : ℕ) (q : Position) → at (parts w) k ≡ at (parts t) k → term_at w (k ∷ q) ≡ term_at t (k ∷ q)
same_part_term w t k q e = rw (e, term_at)

pub word_part : (t u : Term) (k : ℕ) (q : Position) → at (parts t) k ≡ Some u →
    word_at t (k ∷ q) ≡ suc (sizes (take k (parts t)) + word_at u q)
word_part t u k q e = rw (e, word_at)
