-- The walk over the words of a term ends at the last term of its path.
use Rattle.std.proofs.Common.{◌≡◌, ℕ, zero, suc, ◌+◌, ◌≤◌, Bool, true, false, cond, List, [], ◌∷◌, ◌++◌, length, drop, sym, refl, ap, ◌∙◌, append_assoc, arith}
use Rattle.std.specs.List.{AllByRecursion}
use Rattle.calculus.specs.Terms.{Term, unit, variable, abstraction, coroutine, application, yield, start, resume, snapshot, fix, atom, operation, instance, resumption, suspension, is_value, is_suspension}
use Rattle.calculus.specs.Parts.{parts, size, sizes}
use Rattle.calculus.specs.Occurrences.{Position, word_at}
use Rattle.calculus.specs.Places.{evaluated, enter, path as path_of}
use Rattle.layout.specs.Layout.{word_of}
use Rattle.encoding.specs.Encoding.{first_word, encode, encodes, Fits, Stands}
use Rattle.encoding.proofs.Parts.{encode_is, size_is, by_parts, fits_parts}
use Rattle.encoding.proofs.FirstWord.{first_of}
use Rattle.encoding.proofs.Places.{stands_words}
use Rattle.path.specs.Walking.{walk}
use Rattle.image.proofs.Counting.{passes_all}
use Rattle.image.proofs.Rules.{fits_down}
use Rattle.path.proofs.KindFacts.{value_read, suspension_read, evaluated_read, enough_parts}

-- the place of the path's last term, where the path starts at a term at place i
abbrev last_at : ℕ → Term → ℕ
last_at i t = i + word_at t (path_of t)

-- at a term whose owner stands at i: the place inside it, where the path enters it, else as the later parts say
abbrev entered : ℕ → Term → ℕ → ℕ → ℕ
entered i t inside later = cond (is_value t) later (cond (is_suspension t) i inside)

-- the path through the first e of the terms ts, which stand from place i on
abbrev through : ℕ → ℕ → ℕ → List Term → ℕ
through last i zero ts = last
through last i (suc e) [] = last
through last i (suc e) (t ∷ ts) = entered last t (last_at i t) (through last (i + size t) e ts)

-- part k of t and the later parts, by positions
enter_is :
    (i : ℕ) (t : Term) (k : ℕ) (u : Term) (q : Position) (x y : ℕ) → i + word_at t (k ∷ path_of u) ≡ x → y ≡ i + word_at t q →
    entered i u x y ≡ i + word_at t (enter k u (path_of u) q)
enter_is i t k u q x y e f = go (is_value u) (is_suspension u)
  where
    go : (b c : Bool) → cond b y (cond c i x) ≡ i + word_at t (cond b q (cond c [] (k ∷ path_of u)))
    go true c = f
    go false true = omega arith
    go false false = sym e

-- which is how the path goes, where one part is evaluated, and where two are
one_part : (t a : Term) (i : ℕ) → i + word_at t (0 ∷ path_of a) ≡ last_at (i + 1) a →
    entered i a (last_at (i + 1) a) i ≡ i + word_at t (enter 0 a (path_of a) [])
one_part t a i e = enter_is i t 0 a [] (last_at (i + 1) a) i e (omega arith)

two_parts :
    (t a b : Term) (i : ℕ) → i + word_at t (0 ∷ path_of a) ≡ last_at (i + 1) a →
    i + word_at t (1 ∷ path_of b) ≡ last_at (i + 1 + size a) b →
    entered i a (last_at (i + 1) a) (entered i b (last_at (i + 1 + size a) b) i)
    ≡ i + word_at t (enter 0 a (path_of a) (enter 1 b (path_of b) []))
two_parts t a b i e f =
    enter_is i t 0 a _ (last_at (i + 1) a) _ e (enter_is i t 1 b [] (last_at (i + 1 + size a) b) i f (omega arith))

through_is : (t : Term) (i : ℕ) → through i (i + 1) (evaluated t) (parts t) ≡ last_at i t
through_is unit i = omega arith
through_is (variable n) i = omega arith
through_is (abstraction x r b) i = omega arith
through_is (coroutine x r b) i = omega arith
through_is (application f a) i = two_parts (application f a) f a i (omega arith) (omega arith)
through_is (yield t) i = one_part (yield t) t i (omega arith)
through_is (start r f a) i = two_parts (start r f a) f a i (omega arith) (omega arith)
through_is (resume a b c d) i =
    enter_is i (resume a b c d) 0 a _ (last_at (i + 1) a) _ (omega arith)
    (enter_is i (resume a b c d) 1 b _ (last_at (i + 1 + size a) b) _ (omega arith)
    (enter_is i (resume a b c d) 2 c _ (last_at (i + 1 + size a + size b) c) _ (omega arith)
    (enter_is i (resume a b c d) 3 d _ (last_at (i + 1 + size a + size b + size c) d) _ (omega arith) (omega arith))))
through_is (snapshot t) i = one_part (snapshot t) t i (omega arith)
through_is (fix t) i = one_part (fix t) t i (omega arith)
through_is (atom k p) i = omega arith
through_is (operation o a b) i = two_parts (operation o a b) a b i (omega arith) (omega arith)
through_is (instance l r) i = omega arith
through_is (resumption l a b c d) i = one_part (resumption l a b c d) a i (omega arith)
through_is (suspension t v) i = omega arith

-- a term's own place, if it is a value or a suspension
own_place : (t : Term) (i : ℕ) → entered i t (last_at i t) i ≡ last_at i t
own_place unit i = omega arith
own_place (variable n) i = refl
own_place (abstraction x r b) i = omega arith
own_place (coroutine x r b) i = omega arith
own_place (application f a) i = refl
own_place (yield t) i = refl
own_place (start r f a) i = refl
own_place (resume a b c d) i = refl
own_place (snapshot t) i = refl
own_place (fix t) i = refl
own_place (atom k p) i = omega arith
own_place (operation o a b) i = refl
own_place (instance l r) i = omega arith
own_place (resumption l a b c d) i = refl
own_place (suspension t v) i = omega arith

none_left : (i last : ℕ) (ws : List ℕ) → walk i last 0 0 ws ≡ last
none_left i last [] = refl
none_left i last (w ∷ ws) = refl

-- terms that are skipped
skips :
    (last left : ℕ) (t : Term) → Fits t → (n i : ℕ) (rest : List ℕ) →
    walk i last left (suc n) (word_of (first_word t) ∷ (encodes (parts t) ++ rest))
    ≡ walk (i + 1) last left (n + length (parts t)) (encodes (parts t) ++ rest)
skips last left t f n i rest =
    ap (λ m. walk (i + 1) last left (n + m) (encodes (parts t) ++ rest)) (first_of t (fits_parts t f).0).counts

abbrev Walks : Term → Type 0
Walks t =
    Fits t → (i last e : ℕ) (rest : List ℕ) →
    walk i last (suc e) 0 (encode t ++ rest) ≡ entered last t (last_at i t) (walk (i + size t) last e 0 rest)

walks_all :
    (ts : List Term) → AllByRecursion Walks ts → AllByRecursion Fits ts → (i last e : ℕ) (rest : List ℕ) → e ≤ length ts →
    walk i last e 0 (encodes ts ++ rest) ≡ through last i e ts
walks_all ts a f i last zero rest h = none_left i last (encodes ts ++ rest)
walks_all [] a f i last (suc e) rest h = absurd (omega arith)
walks_all (t ∷ ts) a f i last (suc e) rest h =
    rw append_assoc
    (a.0 f.0 i last e (encodes ts ++ rest)
    ∙ ap (entered last t (last_at i t)) (walks_all ts a.1 f.1 (i + size t) last e rest (omega arith)))

-- the parts of a value are skipped
value_skipped :
    (t : Term) → Fits t → (i last e : ℕ) (rest : List ℕ) →
    walk (i + 1) last e (length (parts t)) (encodes (parts t) ++ rest) ≡ walk (i + size t) last e 0 rest
value_skipped t f i last e rest =
    let l : i + 1 + sizes (parts t) ≡ i + size t = omega (arith, size_is t) in
    ap (λ m. walk (i + 1) last e m (encodes (parts t) ++ rest)) (omega arith)
    ∙ passes_all (λ n j ws. walk j last e n ws) Fits fits_down (skips last e) (parts t) (fits_parts t f).1 0 (i + 1) rest
    ∙ ap (λ m. walk m last e 0 rest) l

walks_step : (t : Term) → AllByRecursion Walks (parts t) → Walks t
walks_step t a f i last e rest =
    let b = fits_parts t f in
    let inside : walk (i + 1) i (evaluated t) 0 (encodes (parts t) ++ rest) ≡ last_at i t =
    walks_all (parts t) a b.1 (i + 1) i (evaluated t) rest (enough_parts t) ∙ through_is t i in
    let skipped = value_skipped t f i last e rest in
    rw (encode_is t, value_read t b.0, suspension_read t b.0, evaluated_read t b.0, (first_of t b.0).counts)
    (λ k. cond (is_value t) (skipped k) (cond (is_suspension t) last (inside k)))

pub walks : (t : Term) → Fits t → (i last e : ℕ) (rest : List ℕ) →
    walk i last (suc e) 0 (encode t ++ rest)
    ≡ cond (is_value t) (walk (i + size t) last e 0 rest) (cond (is_suspension t) last (i + word_at t (path_of t)))
walks t = by_parts Walks walks_step t

pub walk_term : (t : Term) (ws : List ℕ) (i : ℕ) → Stands t ws i → walk i i 1 0 (drop i ws) ≡ i + word_at t (path_of t)
walk_term t ws i s =
    ap (walk i i 1 0) (stands_words t ws i s) ∙ walks t s.0 i i 0 (drop (size t) (drop i ws))
    ∙ ap (entered i t (last_at i t)) (none_left (i + size t) i (drop (size t) (drop i ws))) ∙ own_place t i
