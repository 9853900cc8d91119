-- To replace a variable's words by those of a term is to replace the variable by the term.
use Rattle.std.proofs.Common.{◌≡◌, ℕ, suc, ◌+◌, ◌*◌, ◌^◌, Bool, true, false, cond, ◌&&◌, ◌||◌, eqb, ltb, List, [], ◌∷◌, ◌++◌, map, length, sym, refl, ap, ◌∙◌, append_assoc, append-nil, arith}
use Rattle.std.specs.List.{AllByRecursion}
use Rattle.std.proofs.lemmas.Bool.{ne_eqb, or_parts, and_parts, ltb-true}
use Rattle.calculus.specs.Terms.{Term, unit, variable, abstraction, coroutine, application, yield, start, resume, snapshot, fix, atom, operation, instance, resumption, suspension}
use Rattle.calculus.specs.Parts.{parts}
use Rattle.calculus.specs.Replacement.{replace}
use Rattle.words.specs.Kinds.{number_of}
use Rattle.layout.specs.Layout.{kind_of, word_of}
use Rattle.encoding.specs.Encoding.{first_word, encode, encodes, FirstFits, Fits}
use Rattle.encoding.proofs.Parts.{encode_is, by_parts, fits_parts}
use Rattle.encoding.proofs.FirstWord.{first_of}
use Rattle.image.specs.Reading.{kind_at, label_at}
use Rattle.writing.specs.Replacing.{is_variable, binds, replaced}

-- the number of a term's kind
abbrev kind_number : Term → ℕ
kind_number t = number_of (kind_of (first_word t))

-- the name in a word
name_of : (k n r w : ℕ) (b : Bool) → (ltb n (2 ^ 12) && b) ≡ true → w ≡ k * 2 ^ 27 + (n + r * 2 ^ 12) → label_at w ≡ n
name_of k n r w b h e = let f = ltb-true n (2 ^ 12) (and_parts (ltb n (2 ^ 12)) b h).0 in omega arith

module _ (x : ℕ) (vs : List ℕ) where
  -- the words of terms in which x is bound anew stay
  abbrev Stays : Term → Type 0
  Stays t = Fits t → (n : ℕ) (rest : List ℕ) → replaced x vs (suc n) (encode t ++ rest) ≡ encode t ++ replaced x vs n rest

  stays_all :
      (ts : List Term) → AllByRecursion Stays ts → AllByRecursion Fits ts → (n : ℕ) (rest : List ℕ) →
      replaced x vs (n + length ts) (encodes ts ++ rest) ≡ encodes ts ++ replaced x vs n rest
  stays_all [] a f n rest = ap (λ m. replaced x vs m rest) (omega arith)
  stays_all (t ∷ ts) a f n rest =
      let s : n + suc (length ts) ≡ suc (n + length ts) = omega arith in
      let k = ap (λ l. encode t ++ l) (stays_all ts a.1 f.1 n rest) in
      rw (append_assoc (encode t) (encodes ts) rest, append_assoc (encode t) (encodes ts) (replaced x vs n rest), s)
      (a.0 f.0 (n + length ts) (encodes ts ++ rest) ∙ k)

  stays_step : (t : Term) → AllByRecursion Stays (parts t) → Stays t
  stays_step t a f n rest =
      let b = fits_parts t f in
      let h = first_of t b.0 in
      let k = ap (λ l. word_of (first_word t) ∷ l) (stays_all (parts t) a b.1 n rest) in
      rw (encode_is t, ne_eqb (suc n) 0 (λ z. omega arith), h.counts) k

  pub stays :
      (t : Term) → Fits t → (n : ℕ) (rest : List ℕ) → replaced x vs (suc n) (encode t ++ rest) ≡ encode t ++ replaced x vs n rest
  stays t = by_parts Stays stays_step t

module _ (x : ℕ) (v : Term) where
  abbrev Goes : Term → Type 0
  Goes t = (rest : List ℕ) → replaced x (encode v) 0 (encode t ++ rest) ≡ encode (replace x v t) ++ replaced x (encode v) 0 rest

  goes_all :
      (ts : List Term) → AllByRecursion Goes ts → (rest : List ℕ) →
      replaced x (encode v) 0 (encodes ts ++ rest) ≡ encodes (map (replace x v) ts) ++ replaced x (encode v) 0 rest
  goes_all [] a rest = refl
  goes_all (t ∷ ts) a rest =
      let k = ap (λ l. encode (replace x v t) ++ l) (goes_all ts a.1 rest) in
      let us = encodes (map (replace x v) ts) in
      rw (append_assoc (encode t) (encodes ts) rest, append_assoc (encode (replace x v t)) us (replaced x (encode v) 0 rest))
      (a.0 (encodes ts ++ rest) ∙ k)

  -- a word that neither is a variable nor binds a name
  plain :
      (t : Term) → FirstFits t → (eqb (kind_number t) 1 || (eqb (kind_number t) 2 || eqb (kind_number t) 3)) ≡ false →
      AllByRecursion Goes (parts t) → (rest : List ℕ) →
      replaced x (encode v) 0 (encode t ++ rest)
      ≡ (word_of (first_word t) ∷ encodes (map (replace x v) (parts t))) ++ replaced x (encode v) 0 rest
  plain t h nay a rest =
      let o = or_parts (eqb (kind_number t) 1) (eqb (kind_number t) 2 || eqb (kind_number t) 3) nay in
      let k = (first_of t h).kind in
      let p : is_variable x (word_of (first_word t)) ≡ false = rw (k, o.0) in
      let q : binds x (word_of (first_word t)) ≡ false = rw (k, o.1) in
      rw (encode_is t, p, q) (ap (λ l. word_of (first_word t) ∷ l) (goes_all (parts t) a rest))

  -- and so of a term whose replacement goes to its parts
  spread :
      (t u : Term) → FirstFits t → (eqb (kind_number t) 1 || (eqb (kind_number t) 2 || eqb (kind_number t) 3)) ≡ false →
      AllByRecursion Goes (parts t) → first_word u ≡ first_word t → parts u ≡ map (replace x v) (parts t) → (rest : List ℕ) →
      replaced x (encode v) 0 (encode t ++ rest) ≡ encode u ++ replaced x (encode v) 0 rest
  spread t u h nay a e g rest =
      plain t h nay a rest ∙ ap (λ l. l ++ replaced x (encode v) 0 rest) (sym (encode_is u ∙ (λ i. word_of (e i) ∷ encodes (g i))))

  goes_variable : (y : ℕ) → FirstFits (variable y) → Goes (variable y)
  goes_variable y h rest =
      let k = (first_of (variable y) h).kind in
      let m = name_of 1 y 0 (word_of (first_word (variable y))) _ h (omega arith) in
      rw (k, m) (go (eqb y x))
    where
      go :
          (b : Bool) →
          cond b (encode v ++ replaced x (encode v) 0 rest) (word_of (first_word (variable y)) ∷ replaced x (encode v) 0 rest)
          ≡ encode (cond b v (variable y)) ++ replaced x (encode v) 0 rest
      go true = refl
      go false = refl

  -- a binder
  goes_binder :
      (k w y : ℕ) (b : Term) → kind_at w ≡ k → label_at w ≡ y → eqb k 1 ≡ false → (eqb k 2 || eqb k 3) ≡ true → Fits b → Goes b →
      (rest : List ℕ) →
      replaced x (encode v) 0 (w ∷ (encode b ++ rest))
      ≡ w ∷ (encode (cond (eqb y x) b (replace x v b)) ++ replaced x (encode v) 0 rest)
  goes_binder k w y b q m nay yea f a rest = rw (q, m, nay, yea) (go (eqb y x))
    where
      go :
          (c : Bool) →
          w ∷ replaced x (encode v) (cond {A = ℕ} c 1 0) (encode b ++ rest)
          ≡ w ∷ (encode (cond c b (replace x v b)) ++ replaced x (encode v) 0 rest)
      go true = ap (λ l. w ∷ l) (stays x (encode v) b f 0 rest)
      go false = ap (λ l. w ∷ l) (a rest)

  pub goes :
      (t : Term) → Fits t → (rest : List ℕ) →
      replaced x (encode v) 0 (encode t ++ rest) ≡ encode (replace x v t) ++ replaced x (encode v) 0 rest
  goes unit f = λ rest. refl
  goes (variable y) f = goes_variable y f
  goes (abstraction y r b) f =
      goes_binder 2 _ y b (first_of (abstraction y r b) f.0).kind (name_of 2 y r _ _ f.0 (omega arith)) refl refl f.1
      (goes b f.1)
  goes (coroutine y r b) f =
      goes_binder 3 _ y b (first_of (coroutine y r b) f.0).kind (name_of 3 y r _ _ f.0 (omega arith)) refl refl f.1
      (goes b f.1)
  goes (application g a) f =
      spread (application g a) (replace x v (application g a)) f.0 refl (goes g f.1, (goes a f.2, tt)) refl refl
  goes (yield a) f = spread (yield a) (replace x v (yield a)) f.0 refl (goes a f.1, tt) refl refl
  goes (start r g a) f = spread (start r g a) (replace x v (start r g a)) f.0 refl (goes g f.1, (goes a f.2, tt)) refl refl
  goes (resume a b c d) f =
      spread (resume a b c d) (replace x v (resume a b c d)) f.0 refl
      (goes a f.1, (goes b f.2, (goes c f.3, (goes d f.4, tt)))) refl refl
  goes (snapshot a) f = spread (snapshot a) (replace x v (snapshot a)) f.0 refl (goes a f.1, tt) refl refl
  goes (fix a) f = spread (fix a) (replace x v (fix a)) f.0 refl (goes a f.1, tt) refl refl
  goes (atom k p) f = spread (atom k p) (atom k p) f refl tt refl refl
  goes (operation o a b) f =
      spread (operation o a b) (replace x v (operation o a b)) f.0 refl (goes a f.1, (goes b f.2, tt)) refl refl
  goes (instance l r) f = spread (instance l r) (instance l r) f refl tt refl refl
  goes (resumption l a b c d) f =
      spread (resumption l a b c d) (replace x v (resumption l a b c d)) f.0 refl
      (goes a f.1, (goes b f.2, (goes c f.3, (goes d f.4, tt)))) refl refl
  goes (suspension a b) f =
      spread (suspension a b) (replace x v (suspension a b)) f.0 refl (goes a f.1, (goes b f.2, tt)) refl refl

pub replaced_encode : (x : ℕ) (v t : Term) → Fits t → replaced x (encode v) 0 (encode t) ≡ encode (replace x v t)
replaced_encode x v t f =
    ap (replaced x (encode v) 0) (sym (append-nil (encode t))) ∙ goes x v t f [] ∙ append-nil (encode (replace x v t))
