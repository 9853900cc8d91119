-- The parts of a term, and the number of its words: a term is a word and then its parts in order.
use Rattle.std.specs.Prelude.{ℕ, suc, ◌+◌, List, [], ◌∷◌, slice_index_or}
use Rattle.calculus.specs.Terms.{Term, unit, variable, abstraction, coroutine, application, yield, start, resume, snapshot, fix, atom, operation, instance, resumption, suspension}

abbrev pub parts : Term → List Term
parts unit = []
parts (variable n) = []
parts (abstraction x r b) = b ∷ []
parts (coroutine x r b) = b ∷ []
parts (application f a) = f ∷ a ∷ []
parts (yield t) = t ∷ []
parts (start i f a) = f ∷ a ∷ []
parts (resume a b c d) = a ∷ b ∷ c ∷ d ∷ []
parts (snapshot t) = t ∷ []
parts (fix t) = t ∷ []
parts (atom k p) = []
parts (operation o a b) = a ∷ b ∷ []
parts (instance l r) = []
parts (resumption l a b c d) = a ∷ b ∷ c ∷ d ∷ []
parts (suspension t v) = t ∷ v ∷ []

-- the same word with other parts
abbrev pub with_parts : Term → List Term → Term
with_parts unit ts = unit
with_parts (variable n) ts = variable n
with_parts (abstraction x r b) ts = abstraction x r (slice_index_or ts 0 b)
with_parts (coroutine x r b) ts = coroutine x r (slice_index_or ts 0 b)
with_parts (application f a) ts = application (slice_index_or ts 0 f) (slice_index_or ts 1 a)
with_parts (yield t) ts = yield (slice_index_or ts 0 t)
with_parts (start i f a) ts = start i (slice_index_or ts 0 f) (slice_index_or ts 1 a)
with_parts (resume a b c d) ts = resume (slice_index_or ts 0 a) (slice_index_or ts 1 b) (slice_index_or ts 2 c) (slice_index_or ts 3 d)
with_parts (snapshot t) ts = snapshot (slice_index_or ts 0 t)
with_parts (fix t) ts = fix (slice_index_or ts 0 t)
with_parts (atom k p) ts = atom k p
with_parts (operation o a b) ts = operation o (slice_index_or ts 0 a) (slice_index_or ts 1 b)
with_parts (instance l r) ts = instance l r
with_parts (resumption l a b c d) ts = resumption l (slice_index_or ts 0 a) (slice_index_or ts 1 b) (slice_index_or ts 2 c) (slice_index_or ts 3 d)
with_parts (suspension t v) ts = suspension (slice_index_or ts 0 t) (slice_index_or ts 1 v)

-- how many words a term has: its own, and those of its parts
abbrev pub size : Term → ℕ
size unit = 1
size (variable n) = 1
size (abstraction x r b) = suc (size b)
size (coroutine x r b) = suc (size b)
size (application f a) = suc (size f + size a)
size (yield t) = suc (size t)
size (start i f a) = suc (size f + size a)
size (resume a b c d) = suc (size a + size b + size c + size d)
size (snapshot t) = suc (size t)
size (fix t) = suc (size t)
size (atom k p) = 1
size (operation o a b) = suc (size a + size b)
size (instance l r) = 1
size (resumption l a b c d) = suc (size a + size b + size c + size d)
size (suspension t v) = suc (size t + size v)

-- how many words the terms of a list have together
abbrev pub sizes : List Term → ℕ
sizes [] = 0
sizes (t ∷ ts) = size t + sizes ts
