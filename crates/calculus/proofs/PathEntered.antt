-- The path enters the first evaluated part that is not a value, unless that is a suspension; and it ends at an occurrence.
use Rattle.std.proofs.Common.{◌≡◌, ℕ, zero, suc, ◌+◌, Bool, true, false, cond, List, [], ◌∷◌, take, Some, None, Option, refl, ap, ◌∙◌, arith}
use Rattle.calculus.specs.Lists.{at}
use Rattle.calculus.specs.Terms.{Term, unit, variable, abstraction, coroutine, application, yield, start, resume, snapshot, fix, atom, operation, instance, resumption, suspension, is_value, is_suspension}
use Rattle.calculus.specs.Parts.{parts}
use Rattle.calculus.specs.Occurrences.{Position, term_at}
use Rattle.calculus.specs.Places.{evaluated, first_entered, enter, path}
use Rattle.calculus.specs.StatementsOfPlaces.{PathEntered}
use Rattle.calculus.proofs.PathFrames.{term_plug, along_path}

-- the path along the parts ts, the first of which has number k
abbrev along : ℕ → List Term → Position
along k [] = []
along k (t ∷ ts) = enter k t (path t) (along (suc k) ts)

path_along : (t : Term) → path t ≡ along 0 (take (evaluated t) (parts t))
path_along unit = refl
path_along (variable n) = refl
path_along (abstraction x r b) = refl
path_along (coroutine x r b) = refl
path_along (application f a) = refl
path_along (yield t) = refl
path_along (start i f a) = refl
path_along (resume a b c d) = refl
path_along (snapshot t) = refl
path_along (fix t) = refl
path_along (atom k p) = refl
path_along (operation o a b) = refl
path_along (instance l r) = refl
path_along (resumption l a b c d) = refl
path_along (suspension t v) = refl

along_none : (k : ℕ) (ts : List Term) → first_entered ts ≡ None → along k ts ≡ []
along_none k [] e = refl
along_none k (t ∷ ts) e = go (is_value t) (is_suspension t) (first_entered ts) (along_none (suc k) ts) e
  where
    go : (b c : Bool) (o : Option ℕ) → (o ≡ None → along (suc k) ts ≡ []) →
        ◌≡◌ {A = Option ℕ} (cond b (elim o [ None ↦ None | Some n ↦ Some (suc n) ]) (cond c None (Some 0))) None →
        cond b (along (suc k) ts) (cond c [] (k ∷ path t)) ≡ []
    go true c None h e = h refl
    go true c (Some n) h e = let z : ◌≡◌ {A = ℕ} 0 1 = cc in absurd (omega arith)
    go false true o h e = refl
    go false false o h e = let z : ◌≡◌ {A = ℕ} 0 1 = cc in absurd (omega arith)

-- part n of the parts ts, the first of which has number k, is the next on the path q
record Enters (k : ℕ) (ts : List Term) (n : ℕ) (q : Position) : Type 0 where
  part : Term
  part_is : at ts n ≡ Some part
  path_is : q ≡ (k + n) ∷ path part

along_some : (k : ℕ) (ts : List Term) (n : ℕ) → first_entered ts ≡ Some n → Enters k ts n (along k ts)
along_some k [] n e = let z : ◌≡◌ {A = ℕ} 0 1 = cc in absurd (omega arith)
along_some k (t ∷ ts) n e = go (is_value t) (is_suspension t) (first_entered ts) (along_some (suc k) ts) e
  where
    go : (b c : Bool) (o : Option ℕ) → ((m : ℕ) → o ≡ Some m → Enters (suc k) ts m (along (suc k) ts)) →
        cond b (elim o [ None ↦ None | Some m ↦ Some (suc m) ]) (cond c None (Some 0)) ≡ Some n →
        Enters k (t ∷ ts) n (cond b (along (suc k) ts) (cond c [] (k ∷ path t)))
    go true c None h e = let z : ◌≡◌ {A = ℕ} 0 1 = cc in absurd (omega arith)
    go true c (Some m) h e =
        let z : suc m ≡ n = cc in let a = h m refl in let y : suc k + m ≡ k + n = omega arith in
        record { part = a.part; part_is = rw (← z) a.part_is; path_is = rw (← y) a.path_is }
    go false true o h e = let z : ◌≡◌ {A = ℕ} 0 1 = cc in absurd (omega arith)
    go false false o h e =
        let z : 0 ≡ n = cc in let y : k ≡ k + n = omega arith in
        record { part = t; part_is = rw (← z) refl; path_is = rw (← y) refl }

at_take : (m : ℕ) (ts : List Term) (n : ℕ) (u : Term) → at (take m ts) n ≡ Some u → at ts n ≡ Some u
at_take zero ts n u e = let z : ◌≡◌ {A = ℕ} 0 1 = cc in absurd (omega arith)
at_take (suc m) [] n u e = e
at_take (suc m) (t ∷ ts) zero u e = e
at_take (suc m) (t ∷ ts) (suc n) u e = at_take m ts n u e

-- a term that occurs there
record Occurs (t : Term) (q : Position) : Type 0 where
  term : Term
  is : term_at t q ≡ Some term

occurs : (t : Term) → Occurs t (path t)
occurs = along_path (λ t q. Occurs t q) (λ t. record { term = t; is = refl })
    (λ F t q p h. record { term = h.term; is = term_plug F t q ∙ h.is }) (λ l a b c d q h. record { term = h.term; is = h.is })

pub path_entered : PathEntered
path_entered t = (
  λ e. path_along t ∙ along_none 0 (take (evaluated t) (parts t)) e,
  λ k e.
      let a = along_some 0 (take (evaluated t) (parts t)) k e in let z : 0 + k ≡ k = omega arith in
      (a.part, at_take (evaluated t) (parts t) k a.part a.part_is, path_along t ∙ (a.path_is ∙ ap (λ j. j ∷ path a.part) z)),
  ((occurs t).term, (occurs t).is),
)
