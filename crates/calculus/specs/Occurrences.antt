-- Occurrences: a term inside a term, known by its position.
use Rattle.std.specs.Prelude.{◌≡◌, ℕ, suc, ◌+◌, List, [], ◌∷◌, take, Some, None, Option, ◌≢◌}
use Rattle.calculus.specs.Lists.{at, put}
use Rattle.calculus.specs.Terms.{Term, resumption}
use Rattle.calculus.specs.Parts.{parts, with_parts, sizes}

-- The numbers of the parts that lead from the root to an occurrence; parts count from 0, and the root has the empty position.
abbrev pub Position : Type 0
Position = List ℕ

-- the term that occurs at a position, if there is one
abbrev pub term_at : Term → Position → Option Term
term_at t [] = Some t
term_at t (k ∷ p) = elim (at (parts t) k) [ None ↦ None | Some u ↦ term_at u p ]

-- the number of an occurrence's word, the root's being 0: part k comes after its owner's word and the parts before it
abbrev pub word_at : Term → Position → ℕ
word_at t [] = 0
word_at t (k ∷ p) = elim (at (parts t) k) [ None ↦ 0 | Some u ↦ suc (sizes (take k (parts t)) + word_at u p) ]

-- the term with another in the place of what occurs at a position
abbrev pub put_at : Term → Position → Term → Term
put_at t [] s = s
put_at t (k ∷ p) s = elim (at (parts t) k) [ None ↦ t | Some u ↦ with_parts t (put (parts t) k (put_at u p s)) ]

-- two positions part: neither leads through the other
pub data Parted : Position → Position → Type 0 where
  part_here : {j k : ℕ} {p q : Position} → (j ≢ k) → Parted (j ∷ p) (k ∷ q)
  part_below : {k : ℕ} {p q : Position} → Parted p q → Parted (k ∷ p) (k ∷ q)

-- at position p of t stands a resumption with label l
pub record ResumptionAt (t : Term) (p : Position) (l : ℕ) : Type 0 where
  pub body : Term
  pub of_result : Term
  pub of_yield : Term
  pub of_neither : Term
  pub stands : term_at t p ≡ Some (resumption l body of_result of_yield of_neither)
