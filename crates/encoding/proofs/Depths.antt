-- The depths of the words of a term: one for each word, and the greatest is the term's depth.
use Rattle.std.proofs.Common.{◌≡◌, ℕ, suc, ◌+◌, max, List, [], ◌∷◌, ◌++◌, length, sym, refl, ap, ◌∙◌, append-nil, arith, length-append}
use Rattle.std.specs.List.{AllByRecursion}
use Rattle.calculus.specs.Terms.{Term, unit, variable, abstraction, coroutine, application, yield, start, resume, snapshot, fix, atom, operation, instance, resumption, suspension}
use Rattle.calculus.specs.Parts.{parts, size, sizes}
use Rattle.encoding.specs.Depths.{depth, deepest, depths_from, all_depths_from, depths, greatest}
use Rattle.encoding.proofs.Parts.{size_is, by_parts}

-- the first word's depth, and then the depths of the parts
pub depths_is : (d : ℕ) (t : Term) → depths_from d t ≡ d ∷ all_depths_from (suc d) (parts t)
depths_is d unit = refl
depths_is d (variable n) = refl
depths_is d (abstraction x r b) = simp append-nil
depths_is d (coroutine x r b) = simp append-nil
depths_is d (application f a) = simp append-nil
depths_is d (yield t) = simp append-nil
depths_is d (start i f a) = simp append-nil
depths_is d (resume a b c e) = simp append-nil
depths_is d (snapshot t) = simp append-nil
depths_is d (fix t) = simp append-nil
depths_is d (atom k p) = refl
depths_is d (operation o a b) = simp append-nil
depths_is d (instance l r) = refl
depths_is d (resumption l a b c e) = simp append-nil
depths_is d (suspension t v) = simp append-nil

-- a term is one deeper than the deepest of its parts
pub depth_is : (t : Term) → depth t ≡ suc (deepest (parts t))
depth_is unit = refl
depth_is (variable n) = refl
depth_is (abstraction x r b) = omega arith
depth_is (coroutine x r b) = omega arith
depth_is (application f a) = omega arith
depth_is (yield t) = omega arith
depth_is (start i f a) = omega arith
depth_is (resume a b c e) = omega arith
depth_is (snapshot t) = omega arith
depth_is (fix t) = omega arith
depth_is (atom k p) = refl
depth_is (operation o a b) = omega arith
depth_is (instance l r) = refl
depth_is (resumption l a b c e) = omega arith
depth_is (suspension t v) = omega arith

greatest_append : (xs ys : List ℕ) → greatest (xs ++ ys) ≡ max (greatest xs) (greatest ys)
greatest_append [] ys = omega arith
greatest_append (x ∷ xs) ys = omega (arith, greatest_append xs ys)

-- of a term whose first word is at depth d
pub record Deep (d : ℕ) (t : Term) : Type 0 where
  pub count : length (depths_from d t) ≡ size t
  pub most : greatest (depths_from d t) + 1 ≡ d + depth t

-- of terms whose first words are one deeper than d
record DeepAll (d : ℕ) (ts : List Term) : Type 0 where
  count : length (all_depths_from (suc d) ts) ≡ sizes ts
  most : max d (greatest (all_depths_from (suc d) ts)) ≡ d + deepest ts

deep_all : (ts : List Term) → AllByRecursion (λ t. (d : ℕ) → Deep d t) ts → (d : ℕ) → DeepAll d ts
deep_all [] a d = record { count = refl; most = omega arith }
deep_all (t ∷ ts) a d =
    let h = a.0 (suc d) in
    let k = deep_all ts a.1 d in
    let xs = depths_from (suc d) t in
    let ys = all_depths_from (suc d) ts in
    record {
      count = omega (arith, length-append xs ys, h.count, k.count);
      most = omega (arith, greatest_append xs ys, h.most, k.most);
    }

deep_step : (t : Term) → AllByRecursion (λ u. (d : ℕ) → Deep d u) (parts t) → (d : ℕ) → Deep d t
deep_step t a d =
    let k = deep_all (parts t) a d in
    record {
      count = ap length (depths_is d t) ∙ ap suc k.count ∙ sym (size_is t);
      most = omega (arith, ap greatest (depths_is d t), k.most, depth_is t);
    }

pub deep : (t : Term) (d : ℕ) → Deep d t
deep = by_parts (λ t. (d : ℕ) → Deep d t) deep_step

pub depths_counted : (t : Term) → length (depths t) ≡ size t
depths_counted t = (deep t 1).count

pub depths_reach : (t : Term) → greatest (depths t) ≡ depth t
depths_reach t = omega (arith, (deep t 1).most)
