-- Building and reading answer exactly by what a number stands for.
use Rattle.std.proofs.Common.{◌≡◌, ℕ, ◌+◌, ◌*◌, ◌/◌, ◌%◌, ◌^◌, ◌<◌, Bool, true, false, cond, ◌&&◌, eqb, ltb, ◌↔◌, Some, None, Option, Ok, ok_or, sym, refl, ap, ◌∙◌, arith}
use Rattle.std.proofs.lemmas.Bool.{eqb-true, eq-eqb, ne_eqb, and_parts, ltb-true}
use Rattle.words.specs.declared.kinds.Kind.{Kind}
use Rattle.words.specs.declared.kinds.Kind.TheVariants as Kinds
use Rattle.layout.specs.declared.Word.{Word}
use Rattle.layout.specs.declared.Word.TheVariants as W
use Rattle.words.specs.Kinds.{number_of, kind_at}
use Rattle.layout.specs.Conversions.{Decodes}
use Rattle.layout.specs.Layout.{kind_of, fields_of, fit, word_of, Reads, built, word_at, same, read_at, read_word}

-- a kind is found again by its number
kind_again : (k : Kind) → kind_at (number_of k) ≡ Some k
kind_again Kinds.Unit = refl
kind_again Kinds.Variable = refl
kind_again Kinds.Abstraction = refl
kind_again Kinds.Coroutine = refl
kind_again Kinds.Application = refl
kind_again Kinds.Yield = refl
kind_again Kinds.Start = refl
kind_again Kinds.Resume = refl
kind_again Kinds.Snapshot = refl
kind_again Kinds.Fix = refl
kind_again Kinds.Atom = refl
kind_again Kinds.Operation = refl
kind_again Kinds.Instance = refl
kind_again Kinds.Resumption = refl
kind_again Kinds.Suspension = refl
kind_again Kinds.Binding = refl
kind_again Kinds.UnitType = refl
kind_again Kinds.BottomType = refl
kind_again Kinds.BaseType = refl
kind_again Kinds.FunctionType = refl
kind_again Kinds.CoroutineType = refl
kind_again Kinds.InstanceType = refl
kind_again Kinds.ProgramHead = refl
kind_again Kinds.ImageHead = refl

under : (n m : ℕ) (b : Bool) → (ltb n m && b) ≡ true → n < m
under n m b h = ltb-true n m (and_parts (ltb n m) b h).0

rest : (n m : ℕ) (b : Bool) → (ltb n m && b) ≡ true → b ≡ true
rest n m b h = (and_parts (ltb n m) b h).1

-- the number's kind and its word of that kind are the word's own
abbrev Back : Word → Type 0
Back x = (word_of x / 2 ^ 27 ≡ number_of (kind_of x)) × (word_at (kind_of x) (word_of x) ≡ x)

-- a name or label and a row are found again, and the kind above them
record Named (k a b w : ℕ) : Type 0 where
  kind : w / 2 ^ 27 ≡ k
  low : w % 2 ^ 12 ≡ a
  row : w / 2 ^ 12 % 2 ^ 9 ≡ b

named : (k a b w : ℕ) → a < 2 ^ 12 → b < 2 ^ 9 → w ≡ k * 2 ^ 27 + (a + b * 2 ^ 12) → Named k a b w
named k a b w f g e = record { kind = omega arith; low = omega arith; row = omega arith }

-- so are the references of a type row
record Referring (k a b d w : ℕ) : Type 0 where
  kind : w / 2 ^ 27 ≡ k
  first : w % 2 ^ 9 ≡ a
  second : w / 2 ^ 9 % 2 ^ 9 ≡ b
  third : w / 2 ^ 18 % 2 ^ 9 ≡ d

referring :
    (k a b d w : ℕ) → a < 2 ^ 9 → b < 2 ^ 9 → d < 2 ^ 9 → w ≡ k * 2 ^ 27 + (a + (b * 2 ^ 9 + d * 2 ^ 18)) → Referring k a b d w
referring k a b d w f g h e = record { kind = omega arith; first = omega arith; second = omega arith; third = omega arith }

-- so are an atom's base and payload
record Atomic (b p w : ℕ) : Type 0 where
  kind : w / 2 ^ 27 ≡ 10
  base : w / 2 ^ 24 % 2 ^ 3 ≡ b
  payload : w % 2 ^ 24 ≡ p

atomic : (b p w : ℕ) → p < 2 ^ 24 → b < 2 ^ 3 → w ≡ 10 * 2 ^ 27 + (p + b * 2 ^ 24) → Atomic b p w
atomic b p w f g e =
    let above : w / 2 ^ 24 ≡ 80 + b = omega arith in record { kind = omega arith; base = omega arith; payload = omega arith }

-- what is left of a head above its first field
program_rest : (t n : ℕ) → t < 2 ^ 13 → n ≡ 22 * 2 ^ 17 + t → n % 2 ^ 13 ≡ t
program_rest t n f e = omega arith

image_rest : (b n : ℕ) → b < 2 ^ 12 → n ≡ 23 * 2 ^ 12 + b → n % 2 ^ 12 ≡ b
image_rest b n f e = omega arith

back : (x : Word) → fit (fields_of x) ≡ true → Back x
back W.Unit h = (refl, refl)
back (W.Variable n) h =
    let q = named 1 n 0 (word_of (W.Variable n)) (under n _ _ h) (omega arith) (omega arith) in (q.kind, cc q.low)
back (W.Abstraction n r) h =
    let q = named 2 n r (word_of (W.Abstraction n r)) (under n _ _ h) (under r _ _ (rest n _ _ h)) (omega arith) in (q.kind, cc (q.low, q.row))
back (W.Coroutine n r) h =
    let q = named 3 n r (word_of (W.Coroutine n r)) (under n _ _ h) (under r _ _ (rest n _ _ h)) (omega arith) in (q.kind, cc (q.low, q.row))
back W.Application h = (refl, refl)
back W.Yield h = (refl, refl)
back (W.Start r) h = let q = named 6 0 r (word_of (W.Start r)) (omega arith) (under r _ _ h) (omega arith) in (q.kind, cc q.row)
back W.Resume h = (refl, refl)
back W.Snapshot h = (refl, refl)
back W.Fix h = (refl, refl)
back (W.Atom b p) h =
    let q = atomic b p (word_of (W.Atom b p)) (under p _ _ h) (under b _ _ (rest p _ _ h)) (omega arith) in (q.kind, cc (q.base, q.payload))
back (W.Operation n) h =
    let f = under n _ _ h in let first : word_of (W.Operation n) % 2 ^ 8 ≡ n = omega arith in (omega arith, cc)
back (W.Instance l r) h =
    let q = named 12 l r (word_of (W.Instance l r)) (under l _ _ h) (under r _ _ (rest l _ _ h)) (omega arith) in (q.kind, cc (q.low, q.row))
back (W.Resumption l) h =
    let q = named 13 l 0 (word_of (W.Resumption l)) (under l _ _ h) (omega arith) (omega arith) in (q.kind, cc q.low)
back W.Suspension h = (refl, refl)
back (W.Binding true r) h =
    let q = named 15 1 r (word_of (W.Binding true r)) (omega arith) (under r _ _ h) (omega arith) in
    let one : eqb (word_of (W.Binding true r) % 2) 1 ≡ true = eq-eqb _ 1 (omega arith) in (q.kind, cc q.row)
back (W.Binding false r) h =
    let q = named 15 0 r (word_of (W.Binding false r)) (omega arith) (under r _ _ h) (omega arith) in
    let none : eqb (word_of (W.Binding false r) % 2) 1 ≡ false = ne_eqb _ 1 (λ e. omega arith) in (q.kind, cc q.row)
back W.UnitType h = (refl, refl)
back W.BottomType h = (refl, refl)
back (W.BaseType b) h =
    let f = under b _ _ h in let first : word_of (W.BaseType b) % 2 ^ 3 ≡ b = omega arith in (omega arith, cc)
back (W.FunctionType a r) h =
    let q = referring 19 a r 0 (word_of (W.FunctionType a r)) (under a _ _ h) (under r _ _ (rest a _ _ h)) (omega arith) (omega arith) in
    (q.kind, cc (q.first, q.second))
back (W.CoroutineType a y r) h =
    let q =
    referring 20 a y r (word_of (W.CoroutineType a y r)) (under a _ _ h) (under y _ _ (rest a _ _ h))
    (under r _ _ (rest y _ _ (rest a _ _ h))) (omega arith)
    in
    (q.kind, cc (q.first, q.second, q.third))
back (W.InstanceType y r) h =
    let q = referring 21 y r 0 (word_of (W.InstanceType y r)) (under y _ _ h) (under r _ _ (rest y _ _ h)) (omega arith) (omega arith) in
    (q.kind, cc (q.first, q.second))
back (W.ProgramHead r t) h =
    let f = under r _ _ h in
    let g = under t _ _ (rest r _ _ h) in
    let first : word_of (W.ProgramHead r t) % 2 ^ 10 ≡ r = omega arith in
    let above : word_of (W.ProgramHead r t) / 2 ^ 10 ≡ 22 * 2 ^ 17 + t = omega arith in
    let second : word_of (W.ProgramHead r t) / 2 ^ 10 % 2 ^ 13 ≡ t = program_rest t _ g above in (omega arith, cc)
back (W.ImageHead u b) h =
    let f = under u _ _ h in
    let g = under b _ _ (rest u _ _ h) in
    let first : word_of (W.ImageHead u b) % 2 ^ 15 ≡ u = omega arith in
    let above : word_of (W.ImageHead u b) / 2 ^ 15 ≡ 23 * 2 ^ 12 + b = omega arith in
    let second : word_of (W.ImageHead u b) / 2 ^ 15 % 2 ^ 12 ≡ b = image_rest b _ g above in (omega arith, cc)

-- what stands for a word is built of it
built_so : (w : ℕ) (x : Word) → Reads w x → built x ≡ Some w
built_so w x r = ap (λ c. cond c (Some (word_of x)) None) r.fits ∙ ap Some (sym r.is)

-- what is built of a word stands for it
so_built : (w : ℕ) (x : Word) → built x ≡ Some w → Reads w x
so_built w x = by_test (fit (fields_of x)) refl
  where
    by_test : (b : Bool) → fit (fields_of x) ≡ b → cond b (Some (word_of x)) None ≡ Some w → Reads w x
    by_test true t s = record { fits = t; is = cc }
    by_test false t s = let z : ◌≡◌ {A = ℕ} 0 1 = cc in absurd (omega arith)

same_is : (o : Option ℕ) (w : ℕ) → same o w ≡ true → o ≡ Some w
same_is None w e = let z : ◌≡◌ {A = ℕ} 0 1 = cc in absurd (omega arith)
same_is (Some v) w e = ap Some (eqb-true v w e)

-- what stands for a word is read as that word
reads_so : (w : ℕ) (x : Word) → Reads w x → read_word w ≡ Some x
reads_so w x r =
    let b = back x r.fits in
    let k : kind_at (w / 2 ^ 27) ≡ Some (kind_of x) = ap (λ n. kind_at (n / 2 ^ 27)) r.is ∙ ap kind_at b.0 ∙ kind_again (kind_of x) in
    let s : word_at (kind_of x) w ≡ x = ap (word_at (kind_of x)) r.is ∙ b.1 in
    let t : same (built (word_at (kind_of x) w)) w ≡ true = ap (λ y. same (built y) w) s ∙ ap (λ o. same o w) (built_so w x r) ∙ eq-eqb w w refl in
    ap (read_at w) k ∙ ap (λ c. cond c (Some (word_at (kind_of x) w)) None) t ∙ ap Some s

-- what is read as a word stands for it
so_reads_at : (w : ℕ) (x : Word) (k : Option Kind) → read_at w k ≡ Some x → Reads w x
so_reads_at w x None e = let z : ◌≡◌ {A = ℕ} 0 1 = cc in absurd (omega arith)
so_reads_at w x (Some k) e = by_test (same (built (word_at k w)) w) refl e
  where
    by_test : (b : Bool) → same (built (word_at k w)) w ≡ b → cond b (Some (word_at k w)) None ≡ Some x → Reads w x
    by_test true t s = let i : word_at k w ≡ x = cc in so_built w x (ap built (sym i) ∙ same_is (built (word_at k w)) w t)
    by_test false t s = let z : ◌≡◌ {A = ℕ} 0 1 = cc in absurd (omega arith)

pub read_exact : (w : ℕ) (x : Word) → Reads w x ↔ (read_word w ≡ Some x)
read_exact w x = (reads_so w x, so_reads_at w x (kind_at (w / 2 ^ 27)))

-- what is found is the value of the result
found_as_ok : {A E : Type 0} (o : Option A) (e : E) (x : A) → (o ≡ Some x) ↔ (ok_or o e ≡ Ok x)
found_as_ok (Some y) e x = (λ p. cc, λ p. cc)
found_as_ok None e x = (λ p. cc, λ p. cc)

pub decodes : (w : ℕ) → Decodes w (ok_or (read_word w) (record { number = w }))
decodes w =
    record {
      value = refl;
      exact = λ x. let e = found_as_ok (read_word w) (record { number = w }) x in
          (λ r. e.0 ((read_exact w x).0 r), λ p. (read_exact w x).1 (e.1 p));
    }
