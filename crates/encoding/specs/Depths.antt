-- How deep terms are: the first word of a term is at depth 1, and the first words of its parts are one deeper.
use Rattle.std.specs.Prelude.{ℕ, suc, max, List, [], ◌∷◌, ◌++◌}
use Rattle.calculus.specs.Terms.{Term, unit, variable, abstraction, coroutine, application, yield, start, resume, snapshot, fix, atom, operation, instance, resumption, suspension}

-- the greatest depth of a term's words
abbrev pub depth : Term → ℕ
depth unit = 1
depth (variable n) = 1
depth (abstraction x r b) = suc (depth b)
depth (coroutine x r b) = suc (depth b)
depth (application f a) = suc (max (depth f) (depth a))
depth (yield t) = suc (depth t)
depth (start i f a) = suc (max (depth f) (depth a))
depth (resume a b c d) = suc (max (depth a) (max (depth b) (max (depth c) (depth d))))
depth (snapshot t) = suc (depth t)
depth (fix t) = suc (depth t)
depth (atom k p) = 1
depth (operation o a b) = suc (max (depth a) (depth b))
depth (instance l r) = 1
depth (resumption l a b c d) = suc (max (depth a) (max (depth b) (max (depth c) (depth d))))
depth (suspension t v) = suc (max (depth t) (depth v))

-- the greatest depth of some terms; 0 of none
abbrev pub deepest : List Term → ℕ
deepest [] = 0
deepest (t ∷ ts) = max (depth t) (deepest ts)

-- the depths of a term's words in their order, if its first word is at depth d
abbrev pub depths_from : ℕ → Term → List ℕ
depths_from d unit = d ∷ []
depths_from d (variable n) = d ∷ []
depths_from d (abstraction x r b) = d ∷ depths_from (suc d) b
depths_from d (coroutine x r b) = d ∷ depths_from (suc d) b
depths_from d (application f a) = d ∷ (depths_from (suc d) f ++ depths_from (suc d) a)
depths_from d (yield t) = d ∷ depths_from (suc d) t
depths_from d (start i f a) = d ∷ (depths_from (suc d) f ++ depths_from (suc d) a)
depths_from d (resume a b c e) =
    d ∷ (depths_from (suc d) a ++ (depths_from (suc d) b ++ (depths_from (suc d) c ++ depths_from (suc d) e)))
depths_from d (snapshot t) = d ∷ depths_from (suc d) t
depths_from d (fix t) = d ∷ depths_from (suc d) t
depths_from d (atom k p) = d ∷ []
depths_from d (operation o a b) = d ∷ (depths_from (suc d) a ++ depths_from (suc d) b)
depths_from d (instance l r) = d ∷ []
depths_from d (resumption l a b c e) =
    d ∷ (depths_from (suc d) a ++ (depths_from (suc d) b ++ (depths_from (suc d) c ++ depths_from (suc d) e)))
depths_from d (suspension t v) = d ∷ (depths_from (suc d) t ++ depths_from (suc d) v)

-- the depths of the words of terms one after another, if the first word of each is at depth d
abbrev pub all_depths_from : ℕ → List Term → List ℕ
all_depths_from d [] = []
all_depths_from d (t ∷ ts) = depths_from d t ++ all_depths_from d ts

-- the depths of a term's words in their order
abbrev pub depths : Term → List ℕ
depths t = depths_from 1 t

-- the greatest of some numbers; 0 of none
abbrev pub greatest : List ℕ → ℕ
greatest [] = 0
greatest (n ∷ ns) = max n (greatest ns)
