-- The rules that the words of a term are tested for are the rules of the term.
use Rattle.std.proofs.Common.{◌≡◌, ℕ, suc, ◌+◌, ◌<◌, Bool, true, false, ◌&&◌, ◌||◌, eqb, ltb, List, [], ◌∷◌, ◌++◌, length, refl, ap, ◌∙◌, append_assoc, arith}
use Rattle.std.specs.List.{AllByRecursion}
use Rattle.std.proofs.lemmas.Bool.{and_from, and_parts, lt-ltb, ltb-true}
use Rattle.std.proofs.Math.Bool.{and-true}
use Rattle.calculus.specs.Terms.{Term, unit, variable, abstraction, coroutine, application, yield, start, resume, snapshot, fix, atom, operation, instance, resumption, suspension, is_value}
use Rattle.calculus.specs.Parts.{parts, size}
use Rattle.calculus.specs.Configurations.{Formed}
use Rattle.words.specs.Kinds.{number_of}
use Rattle.layout.specs.Layout.{kind_of, word_of}
use Rattle.encoding.specs.Encoding.{first_word, encode, encodes, FirstFits, Fits}
use Rattle.encoding.proofs.Parts.{encode_is, fits_parts}
use Rattle.encoding.proofs.FirstWord.{first_of}
use Rattle.image.specs.Reading.{label_at, value_kind, value_after, label_below, values_follow, reach}
use Rattle.image.specs.Places.{Right}
use Rattle.image.proofs.Counting.{passes}

pub fits_down : (t : Term) → Fits t → AllByRecursion Fits (parts t)
fits_down t f = (fits_parts t f).1

-- a value is known by the kind of its first word
pub value_kinds : (t : Term) → value_kind (number_of (kind_of (first_word t))) ≡ is_value t
value_kinds unit = refl
value_kinds (variable x) = refl
value_kinds (abstraction x r b) = refl
value_kinds (coroutine x r b) = refl
value_kinds (application f a) = refl
value_kinds (yield a) = refl
value_kinds (start r f a) = refl
value_kinds (resume a b c d) = refl
value_kinds (snapshot a) = refl
value_kinds (fix a) = refl
value_kinds (atom k p) = refl
value_kinds (operation o a b) = refl
value_kinds (instance l r) = refl
value_kinds (resumption l a b c d) = refl
value_kinds (suspension t v) = refl

pub value_here : (t : Term) → Fits t → (rest : List ℕ) → value_after 0 (encode t ++ rest) ≡ is_value t
value_here t f rest = rw (encode_is t, (first_of t (fits_parts t f).0).kind) (value_kinds t)

value_step :
    (t : Term) → Fits t → (n i : ℕ) (rest : List ℕ) →
    value_after (suc n) (word_of (first_word t) ∷ (encodes (parts t) ++ rest)) ≡ value_after (n + length (parts t)) (encodes (parts t) ++ rest)
value_step t f n i rest =
    ap (λ m. value_after (n + m) (encodes (parts t) ++ rest)) (first_of t (fits_parts t f).0).counts

pub value_past : (t : Term) → Fits t → (n : ℕ) (rest : List ℕ) → value_after (suc n) (encode t ++ rest) ≡ value_after n rest
value_past t f n rest = passes (λ m i ws. value_after m ws) Fits fits_down value_step t f n 0 rest

-- the rules of a term among n bindings that its own word is tested for
abbrev pub own : ℕ → Term → Bool
own n unit = true
own n (variable x) = true
own n (abstraction x r b) = true
own n (coroutine x r b) = true
own n (application f a) = true
own n (yield a) = true
own n (start r f a) = true
own n (resume a b c d) = true
own n (snapshot a) = true
own n (fix a) = true
own n (atom k p) = true
own n (operation o a b) = true
own n (instance l r) = ltb l n
own n (resumption l a b c d) = ltb l n && (is_value b && (is_value c && is_value d))
own n (suspension t v) = is_value v

-- the test of a term's first word
abbrev tested : ℕ → Term → List ℕ → Bool
tested n t ws = label_below n (word_of (first_word t)) && values_follow (word_of (first_word t)) ws

plain :
    (n : ℕ) (t : Term) → FirstFits t → (rest : List ℕ) →
    (eqb (number_of (kind_of (first_word t))) 12 || eqb (number_of (kind_of (first_word t))) 13) ≡ false →
    eqb (number_of (kind_of (first_word t))) 13 ≡ false → eqb (number_of (kind_of (first_word t))) 14 ≡ false →
    tested n t (encodes (parts t) ++ rest) ≡ true
plain n t f rest e g h = rw ((first_of t f).kind, e, g, h)

under : (n m : ℕ) (b : Bool) → (ltb n m && b) ≡ true → n < m
under n m b h = ltb-true n m (and_parts (ltb n m) b h).0

instance_label : (l r : ℕ) → FirstFits (instance l r) → label_at (word_of (first_word (instance l r))) ≡ l
instance_label l r f = let g = under l _ _ f in omega arith

resumption_label : (l : ℕ) (a b c d : Term) → FirstFits (resumption l a b c d) → label_at (word_of (first_word (resumption l a b c d))) ≡ l
resumption_label l a b c d f = let g = under l _ _ f in omega arith

-- the test on words is the test on terms
pub own_words : (n : ℕ) (t : Term) → Fits t → (rest : List ℕ) → tested n t (encodes (parts t) ++ rest) ≡ own n t
own_words n unit f rest = plain n unit f rest refl refl refl
own_words n (variable x) f rest = plain n (variable x) f rest refl refl refl
own_words n (abstraction x r b) f rest = plain n (abstraction x r b) f.0 rest refl refl refl
own_words n (coroutine x r b) f rest = plain n (coroutine x r b) f.0 rest refl refl refl
own_words n (application g a) f rest = plain n (application g a) f.0 rest refl refl refl
own_words n (yield a) f rest = plain n (yield a) f.0 rest refl refl refl
own_words n (start r g a) f rest = plain n (start r g a) f.0 rest refl refl refl
own_words n (resume a b c d) f rest = plain n (resume a b c d) f.0 rest refl refl refl
own_words n (snapshot a) f rest = plain n (snapshot a) f.0 rest refl refl refl
own_words n (fix a) f rest = plain n (fix a) f.0 rest refl refl refl
own_words n (atom k p) f rest = plain n (atom k p) f rest refl refl refl
own_words n (operation o a b) f rest = plain n (operation o a b) f.0 rest refl refl refl
own_words n (instance l r) f rest =
    rw ((first_of (instance l r) f).kind, instance_label l r f) (and-true (ltb l n))
own_words n (resumption l a b c d) f rest =
    let va = value_past a f.1 in
    let vb = value_past b f.2 in
    let vc = value_past c f.3 in
    let one : value_after 1 ((encode a ++ (encode b ++ (encode c ++ (encode d ++ [])))) ++ rest) ≡ is_value b =
    simp append_assoc (va 0 _ ∙ value_here b f.2 _) in
    let two : value_after 2 ((encode a ++ (encode b ++ (encode c ++ (encode d ++ [])))) ++ rest) ≡ is_value c =
    simp append_assoc (va 1 _ ∙ vb 0 _ ∙ value_here c f.3 _) in
    let three : value_after 3 ((encode a ++ (encode b ++ (encode c ++ (encode d ++ [])))) ++ rest) ≡ is_value d =
    simp append_assoc (va 2 _ ∙ vb 1 _ ∙ vc 0 _ ∙ value_here d f.4 _) in
    rw ((first_of (resumption l a b c d) f.0).kind, resumption_label l a b c d f.0, one, two, three)
own_words n (suspension t v) f rest =
    let one : value_after 1 ((encode t ++ (encode v ++ [])) ++ rest) ≡ is_value v =
    simp append_assoc (value_past t f.1 0 _ ∙ value_here v f.2 _) in
    rw one

pub formed_own : (n : ℕ) (t : Term) → Formed n t → own n t ≡ true
formed_own n unit h = refl
formed_own n (variable x) h = refl
formed_own n (abstraction x r b) h = refl
formed_own n (coroutine x r b) h = refl
formed_own n (application f a) h = refl
formed_own n (yield a) h = refl
formed_own n (start r f a) h = refl
formed_own n (resume a b c d) h = refl
formed_own n (snapshot a) h = refl
formed_own n (fix a) h = refl
formed_own n (atom k p) h = refl
formed_own n (operation o a b) h = refl
formed_own n (instance l r) h = lt-ltb l n h
formed_own n (resumption l a b c d) h =
    let v = h.1 in and_from _ _ (lt-ltb l n h.0) (and_from _ _ v.0 (and_from _ _ v.1 v.2))
formed_own n (suspension t v) h = h.0

-- the rules go to the parts, and come from them and the own word
pub formed_parts : (n : ℕ) (t : Term) → Formed n t → AllByRecursion (Formed n) (parts t)
formed_parts n unit h = tt
formed_parts n (variable x) h = tt
formed_parts n (abstraction x r b) h = (h, tt)
formed_parts n (coroutine x r b) h = (h, tt)
formed_parts n (application f a) h = (h.0, (h.1, tt))
formed_parts n (yield a) h = (h, tt)
formed_parts n (start r f a) h = (h.0, (h.1, tt))
formed_parts n (resume a b c d) h = (h.0, (h.1, (h.2, (h.3, tt))))
formed_parts n (snapshot a) h = (h, tt)
formed_parts n (fix a) h = (h, tt)
formed_parts n (atom k p) h = tt
formed_parts n (operation o a b) h = (h.0, (h.1, tt))
formed_parts n (instance l r) h = tt
formed_parts n (resumption l a b c d) h = let k = h.2 in (k.0, (k.1, (k.2, (k.3, tt))))
formed_parts n (suspension t v) h = (h.1, (h.2, tt))

pub parts_formed : (n : ℕ) (t : Term) → own n t ≡ true → AllByRecursion (Formed n) (parts t) → Formed n t
parts_formed n unit o a = tt
parts_formed n (variable x) o a = tt
parts_formed n (abstraction x r b) o a = a.0
parts_formed n (coroutine x r b) o a = a.0
parts_formed n (application f b) o a = (a.0, a.1.0)
parts_formed n (yield b) o a = a.0
parts_formed n (start r f b) o a = (a.0, a.1.0)
parts_formed n (resume e b c d) o a = (a.0, a.1.0, a.1.1.0, a.1.1.1.0)
parts_formed n (snapshot b) o a = a.0
parts_formed n (fix b) o a = a.0
parts_formed n (atom k p) o a = tt
parts_formed n (operation q e b) o a = (a.0, a.1.0)
parts_formed n (instance l r) o a = ltb-true l n o
parts_formed n (resumption l e b c d) o a =
    let p = and_parts (ltb l n) (is_value b && (is_value c && is_value d)) o in
    let q = and_parts (is_value b) (is_value c && is_value d) p.1 in
    let r = and_parts (is_value c) (is_value d) q.1 in
    (ltb-true l n p.0, (q.0, r.0, r.1), (a.0, a.1.0, a.1.1.0, a.1.1.1.0))
parts_formed n (suspension t v) o a = (o, a.0, a.1.0)

both : {A : Type 0} (P Q : A → Type 0) (xs : List A) → AllByRecursion P xs → AllByRecursion Q xs → AllByRecursion (λ x. P x × Q x) xs
both P Q [] a b = tt
both P Q (x ∷ xs) a b = ((a.0, b.0), both P Q xs a.1 b.1)

pub right_parts : (n : ℕ) (t : Term) → Right n t → AllByRecursion (Right n) (parts t)
right_parts n t h = both Fits (Formed n) (parts t) (fits_parts t h.0).1 (formed_parts n t h.1)

-- a term that keeps the rules is passed over
module _ (n b : ℕ) where
  reach_step :
      (t : Term) → Right n t → (p i : ℕ) (rest : List ℕ) →
      reach n (suc p) b i (word_of (first_word t) ∷ (encodes (parts t) ++ rest)) ≡ reach n (p + length (parts t)) b (i + 1) (encodes (parts t) ++ rest)
  reach_step t h p i rest =
      let k = first_of t (fits_parts t h.0).0 in
      let o : tested n t (encodes (parts t) ++ rest) ≡ true = own_words n t h.0 rest ∙ formed_own n t h.1 in
      rw (k.accepted, o, k.counts)

  pub reach_term :
      (t : Term) → Right n t → (p i : ℕ) (rest : List ℕ) → reach n (suc p) b i (encode t ++ rest) ≡ reach n p b (i + size t) rest
  reach_term t h p i rest = passes (λ m j ws. reach n m b j ws) (Right n) (right_parts n) reach_step t h p i rest
