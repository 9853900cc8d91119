-- The search for a suspension, over the words of terms.
use Rattle.std.proofs.Common.{◌≡◌, ℕ, suc, ◌+◌, true, false, cond, eqb, List, [], ◌∷◌, ◌++◌, length, Some, None, sym, ap, ◌∙◌, append_assoc, arith}
use Rattle.std.specs.List.{AllByRecursion}
use Rattle.calculus.specs.Terms.{Term, is_value, is_suspension, Value}
use Rattle.calculus.specs.Parts.{parts, size, sizes}
use Rattle.layout.specs.Layout.{word_of}
use Rattle.encoding.specs.Encoding.{first_word, encode, encodes, Fits}
use Rattle.encoding.specs.Scanning.{arity_of}
use Rattle.encoding.proofs.Parts.{encode_is, fits_parts}
use Rattle.encoding.proofs.FirstWord.{first_of}
use Rattle.image.specs.Reading.{kind_at, value_kind}
use Rattle.path.specs.Walking.{pause_at}
use Rattle.image.proofs.Counting.{passes}
use Rattle.image.proofs.Rules.{fits_down}
use Rattle.path.proofs.KindFacts.{value_read, suspension_read}
use Rattle.path.proofs.PausedWords.{pause_none}

skip_step :
    (left : ℕ) (t : Term) → Fits t → (n i : ℕ) (rest : List ℕ) →
    pause_at i left (suc n) (word_of (first_word t) ∷ (encodes (parts t) ++ rest))
    ≡ pause_at (i + 1) left (n + length (parts t)) (encodes (parts t) ++ rest)
skip_step left t f n i rest =
    ap (λ m. pause_at (i + 1) left (n + m) (encodes (parts t) ++ rest)) (first_of t (fits_parts t f).0).counts

-- a term that is skipped
pub pause_skips :
    (left : ℕ) (t : Term) → Fits t → (n i : ℕ) (rest : List ℕ) →
    pause_at i left (suc n) (encode t ++ rest) ≡ pause_at (i + size t) left n rest
pause_skips left t f n i rest = passes (λ m j ws. pause_at j left m ws) Fits fits_down (skip_step left) t f n i rest

-- a term that is looked at
value_word :
    (w e i : ℕ) (ws : List ℕ) → value_kind (kind_at w) ≡ true → pause_at i (suc e) 0 (w ∷ ws) ≡ pause_at i e 1 (w ∷ ws)
value_word w e i ws h =
    let z : arity_of w ≡ 0 + arity_of w = omega arith in
    ap (λ b. cond b (pause_at (i + 1) e (arity_of w) ws) (cond (eqb (kind_at w) 14) (Some i) None)) h
    ∙ ap (λ k. pause_at (i + 1) e k ws) z

module _ (t : Term) (f : Fits t) (e i : ℕ) (rest : List ℕ) where
  first_then : encode t ++ rest ≡ word_of (first_word t) ∷ (encodes (parts t) ++ rest)
  first_then = ap (λ l. l ++ rest) (encode_is t)

  pub pause_value : Value t → pause_at i (suc e) 0 (encode t ++ rest) ≡ pause_at (i + size t) e 0 rest
  pause_value v =
      ap (pause_at i (suc e) 0) first_then
      ∙ value_word (word_of (first_word t)) e i (encodes (parts t) ++ rest) (value_read t (fits_parts t f).0 ∙ v)
      ∙ ap (pause_at i e 1) (sym first_then) ∙ pause_skips e t f 0 i rest

  no_value :
      is_value t ≡ false → pause_at i (suc e) 0 (encode t ++ rest) ≡ cond (is_suspension t) (Some i) None
  no_value v =
      let w = word_of (first_word t) in
      let ws = encodes (parts t) ++ rest in
      let h = value_read t (fits_parts t f).0 ∙ v in
      ap (pause_at i (suc e) 0) first_then
      ∙ ap (λ b. cond b (pause_at (i + 1) e (arity_of w) ws) (cond (eqb (kind_at w) 14) (Some i) None)) h
      ∙ ap (λ b. cond b (Some i) None) (suspension_read t (fits_parts t f).0)

  pub pause_suspension : is_value t ≡ false → is_suspension t ≡ true → pause_at i (suc e) 0 (encode t ++ rest) ≡ Some i
  pause_suspension v s = no_value v ∙ ap (λ b. cond b (Some i) None) s

  pub pause_neither : is_value t ≡ false → is_suspension t ≡ false → pause_at i (suc e) 0 (encode t ++ rest) ≡ None
  pause_neither v s = no_value v ∙ ap (λ b. cond b (Some i) None) s

-- values one after another
pub pause_values :
    (vs : List Term) → AllByRecursion Fits vs → AllByRecursion Value vs → (e i : ℕ) (rest : List ℕ) →
    pause_at i (length vs + e) 0 (encodes vs ++ rest) ≡ pause_at (i + sizes vs) e 0 rest
pause_values [] f v e i rest = (λ j. pause_at (a j) (b j) 0 rest)
  where
    a : i ≡ i + 0
    a = omega arith

    b : 0 + e ≡ e
    b = omega arith
pause_values (t ∷ ts) f v e i rest =
    let s : suc (length ts) + e ≡ suc (length ts + e) = omega arith in
    let l : i + size t + sizes ts ≡ i + (size t + sizes ts) = omega arith in
    (λ j. pause_at i (s j) 0 (append_assoc (encode t) (encodes ts) rest j))
    ∙ pause_value t f.0 (length ts + e) i (encodes ts ++ rest) v.0 ∙ pause_values ts f.1 v.1 e (i + size t) rest
    ∙ ap (λ m. pause_at m e 0 rest) l

-- all terms that are looked at are values
pub pause_never :
    (vs : List Term) → AllByRecursion Fits vs → AllByRecursion Value vs → (i k : ℕ) (rest : List ℕ) → k ≡ length vs →
    pause_at i k 0 (encodes vs ++ rest) ≡ None
pause_never vs f v i k rest e =
    let z : k ≡ length vs + 0 = omega arith in
    ap (λ j. pause_at i j 0 (encodes vs ++ rest)) z ∙ pause_values vs f v 0 i rest ∙ pause_none (i + sizes vs) 0 rest (omega arith)
