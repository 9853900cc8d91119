-- What is proved of the path, of the place of a step and of what lasts in a history: each promise is one statement.
use Rattle.std.specs.Prelude.{◌≡◌, ℕ, suc, ◌+◌, ◌≤◌, ◌↔◌, [], ◌∷◌, Some, None}
use Rattle.quantities.specs.Meaning.{Meaning}
use Rattle.calculus.specs.Lists.{at}
use Rattle.calculus.specs.Terms.{Term}
use Rattle.calculus.specs.Parts.{parts, size, sizes}
use Rattle.calculus.specs.Occurrences.{Position, term_at, word_at, put_at, Parted}
use Rattle.calculus.specs.Configurations.{Bindings}
use Rattle.calculus.specs.Places.{enters, path, place}
use Rattle.calculus.specs.Steps.{Step, LineAtPath}
use Rattle.calculus.specs.Shape.{Shaped}
use Rattle.calculus.specs.Resumptions.{ResumptionsOnPath}
use Rattle.calculus.specs.Histories.{History, Later, Lasts}

-- The path is as it is said: from a term it enters the first evaluated part that is not a value, and goes on as from there; it ends where
-- there is no such part, or that is a suspension. It ends at an occurrence.
abbrev pub PathEntered : Type 0
PathEntered =
    (t : Term) →
    (enters t ≡ None → path t ≡ []) ×
    ((k : ℕ) → enters t ≡ Some k → (u : Term) × (at (parts t) k ≡ Some u) × (path t ≡ k ∷ path u)) ×
    ((u : Term) × (term_at t (path t) ≡ Some u))

-- A term has its own word and those of its parts; the words of an occurrence lie among those of the term, and no two occurrences start at
-- one word. The place of the step is the number of one of the term's words, counted from 1.
abbrev pub WordsWithin : Type 0
WordsWithin =
    ((t : Term) → size t ≡ suc (sizes (parts t))) ×
    ((t u : Term) (p : Position) → term_at t p ≡ Some u → word_at t p + size u ≤ size t) ×
    ((t u v : Term) (p q : Position) → term_at t p ≡ Some u → term_at t q ≡ Some v → word_at t p ≡ word_at t q → p ≡ q) ×
    ((t : Term) → (1 ≤ place t) × (place t ≤ size t))

-- Where another term is put in the place of an occurrence, it stands there, at the same word; the size changes as it must, and what occurs
-- elsewhere stays.
abbrev pub PutInPlace : Type 0
PutInPlace =
    (t u s : Term) (p : Position) → term_at t p ≡ Some u →
    (term_at (put_at t p s) p ≡ Some s) ×
    (word_at (put_at t p s) p ≡ word_at t p) ×
    (size (put_at t p s) + size u ≡ size t + size s) ×
    ((q : Position) → Parted p q → term_at (put_at t p s) q ≡ term_at t q)

-- A step happens at the path's last term: the steps are what the lines give there, all else left as it is.
abbrev pub StepAtPath : Type 0
StepAtPath = (Q : Meaning) (t t' : Term) (μ μ' : Bindings) → Step Q t μ t' μ' ↔ LineAtPath Q t μ t' μ'

-- In a configuration of good shape every resumption is on the path, no two have one label, the binding of each is empty, and no ready
-- body has one.
abbrev pub EveryResumptionOnPath : Type 0
EveryResumptionOnPath = (t : Term) (μ : Bindings) → Shaped t μ → ResumptionsOnPath t μ

-- What comes later in a history is of the same history, and has all earlier bindings, each with its row; every new one was added by a
-- start, with the start's row, or by a snapshot, with the row of what it copied.
abbrev pub Lasting : Type 0
Lasting =
    (Q : Meaning) (p t t' : Term) (μ μ' : Bindings) → History Q p t μ → Later Q t μ t' μ' →
    History Q p t' μ' × Lasts Q t μ t' μ'
