-- Words that are passed over as a term and bindings are those of a term and bindings that keep the rules, and the other way round.
use Rattle.std.proofs.Common.{◌≡◌, ℕ, zero, suc, ◌+◌, ◌*◌, ◌/◌, ◌%◌, ◌^◌, ◌<◌, Bool, true, false, cond, ◌&&◌, eqb, ltb, List, [], ◌∷◌, ◌++◌, length, Some, None, Option, sym, refl, ap, ◌∙◌, append_assoc, append-nil, arith, length-append}
use Rattle.std.specs.List.{AllByRecursion}
use Rattle.std.proofs.lemmas.Bool.{and_from, and_parts, lt-ltb, ltb-true, eq-eqb, eqb-true}
use Rattle.std.proofs.lemmas.Option.{none-some}
use Rattle.calculus.specs.Terms.{Term}
use Rattle.calculus.specs.Parts.{parts, size}
use Rattle.calculus.specs.Configurations.{Binding, empty, ready, Bindings, Formed}
use Rattle.layout.specs.Layout.{word_of, fields_of, fit}
use Rattle.encoding.specs.Encoding.{first_word, encode, encodes, Fits}
use Rattle.encoding.specs.Scanning.{arity_of, is_term_word, scan}
use Rattle.encoding.proofs.Parts.{encode_is, by_parts, fits_parts, length_encode}
use Rattle.encoding.proofs.FirstWord.{first_of}
use Rattle.encoding.proofs.Found.{found}
use Rattle.image.specs.Images.{binding_word, bindings_words}
use Rattle.image.specs.Reading.{kind_at, row_at, label_below, values_follow, may_stand, is_binding, reach}
use Rattle.image.specs.Places.{Right, RightBinding}
use Rattle.image.proofs.Rules.{own_words, parts_formed, reach_term}

passed_test : (t : Bool) (x : Option ℕ) (e : ℕ) → cond t x None ≡ Some e → (t ≡ true) × (x ≡ Some e)
passed_test true x e h = (refl, h)
passed_test false x e h = absurd (none-some e h)

-- words that are passed over as terms are words of terms
reach_scan : (ws : List ℕ) (n p b i e : ℕ) → reach n p b i ws ≡ Some e → (m : ℕ) × (scan p i ws ≡ Some m)
reach_scan ws n zero b i e h = (i, refl)
reach_scan [] n (suc p) b i e h = absurd (none-some e h)
reach_scan (w ∷ ws) n (suc p) b i e h =
    let q = passed_test (may_stand n w ws) (reach n (p + arity_of w) b (i + 1) ws) e h in
    let k = and_parts (is_term_word w) (label_below n w && values_follow w ws) q.0 in
    let r = reach_scan ws n (p + arity_of w) b (i + 1) e q.1 in
    (r.0, ap (λ t. cond t (scan (p + arity_of w) (i + 1) ws) None) k.0 ∙ r.1)

-- and the terms keep the rules
module _ (n b e : ℕ) where
  abbrev Kept : Term → Type 0
  Kept t = Fits t → (p i : ℕ) (rest : List ℕ) → reach n (suc p) b i (encode t ++ rest) ≡ Some e → Formed n t

  kept_all :
      (ts : List Term) → AllByRecursion Kept ts → AllByRecursion Fits ts → (p i : ℕ) (rest : List ℕ) →
      reach n (p + length ts) b i (encodes ts ++ rest) ≡ Some e → AllByRecursion (Formed n) ts
  kept_all [] a f p i rest h = tt
  kept_all (t ∷ ts) a f p i rest h =
      let s : suc (p + length ts) ≡ p + suc (length ts) = omega arith in
      let g : reach n (suc (p + length ts)) b i (encode t ++ (encodes ts ++ rest)) ≡ Some e =
      ap (λ m. reach n m b i (encode t ++ (encodes ts ++ rest))) s
      ∙ ap (reach n (p + suc (length ts)) b i) (sym (append_assoc (encode t) (encodes ts) rest)) ∙ h in
      let k = a.0 f.0 (p + length ts) i (encodes ts ++ rest) g in
      (k, kept_all ts a.1 f.1 p (i + size t) rest (sym (reach_term n b t (f.0, k) (p + length ts) i (encodes ts ++ rest)) ∙ g))

  kept_step : (t : Term) → AllByRecursion Kept (parts t) → Kept t
  kept_step t a f p i rest h =
      let w = word_of (first_word t) in
      let ws = encodes (parts t) ++ rest in
      let k = fits_parts t f in
      let q = passed_test (may_stand n w ws) (reach n (p + arity_of w) b (i + 1) ws) e
      (sym (ap (λ l. reach n (suc p) b i (l ++ rest)) (encode_is t)) ∙ h) in
      let o = and_parts (is_term_word w) (label_below n w && values_follow w ws) q.0 in
      parts_formed n t (sym (own_words n t f rest) ∙ o.1)
      (kept_all (parts t) a k.1 p (i + 1) rest
      (ap (λ m. reach n (p + m) b (i + 1) ws) (sym (first_of t k.0).counts) ∙ q.1))

  pub kept : (t : Term) → Fits t → (p i : ℕ) (rest : List ℕ) → reach n (suc p) b i (encode t ++ rest) ≡ Some e → Formed n t
  kept t = by_parts Kept kept_step t

-- one term stands at the front of ws, at place i, and b bindings behind it up to place e
record OneTerm (n b i e : ℕ) (ws : List ℕ) : Type 0 where
  whole : Term
  rest : List ℕ
  right : Right n whole
  same : ws ≡ encode whole ++ rest
  onward : reach n 0 b (i + size whole) rest ≡ Some e

one_of :
    (n b i e : ℕ) (ws : List ℕ) → reach n 1 b i ws ≡ Some e → (ts : List Term) (rest : List ℕ) → AllByRecursion Fits ts → length ts ≡ 1 →
    ws ≡ encodes ts ++ rest → OneTerm n b i e ws
one_of n b i e ws h [] rest f c s = absurd (omega arith)
one_of n b i e ws h (t ∷ u ∷ ts) rest f c s = absurd (omega arith)
one_of n b i e ws h (t ∷ []) rest f c s =
    let q : ws ≡ encode t ++ rest = s ∙ ap (λ l. l ++ rest) (append-nil (encode t)) in
    let g : reach n 1 b i (encode t ++ rest) ≡ Some e = ap (reach n 1 b i) (sym q) ∙ h in
    let k : Right n t = (f.0, kept n b e t f.0 0 i rest g) in
    record { whole = t; rest = rest; right = k; same = q; onward = sym (reach_term n b t k 0 i rest) ∙ g }

one_term : (n b i e : ℕ) (ws : List ℕ) → reach n 1 b i ws ≡ Some e → OneTerm n b i e ws
one_term n b i e ws h =
    let s = reach_scan ws n 1 b i e h in
    let r = found ws 1 i s.0 s.1 in
    one_of n b i e ws h r.terms r.rest r.fits r.count r.same

-- b bindings stand at the front of ws, from place i to place e
record SomeBindings (n b i e : ℕ) (ws : List ℕ) : Type 0 where
  whole : Bindings
  rest : List ℕ
  right : AllByRecursion (RightBinding n) whole
  count : length whole ≡ b
  same : ws ≡ bindings_words whole ++ rest
  ends : e ≡ i + length (bindings_words whole)

-- the word of a binding
record BindingWord (w : ℕ) : Type 0 where
  kind : kind_at w ≡ 15
  low : w % 2 ^ 12 < 2
  high : w / 2 ^ 12 % 2 ^ 15 < 2 ^ 9

of_binding : (w : ℕ) → is_binding w ≡ true → BindingWord w
of_binding w h =
    let p = and_parts (eqb (kind_at w) 15) (ltb (w % 2 ^ 12) 2 && ltb (w / 2 ^ 12 % 2 ^ 15) (2 ^ 9)) h in
    let q = and_parts (ltb (w % 2 ^ 12) 2) (ltb (w / 2 ^ 12 % 2 ^ 15) (2 ^ 9)) p.1 in
    record {
      kind = eqb-true (kind_at w) 15 p.0;
      low = ltb-true (w % 2 ^ 12) 2 q.0;
      high = ltb-true (w / 2 ^ 12 % 2 ^ 15) (2 ^ 9) q.1;
    }

row_fits : (r : ℕ) → r < 2 ^ 9 → (ltb r (2 ^ 9) && true) ≡ true
row_fits r h = and_from _ _ (lt-ltb r (2 ^ 9) h) refl

is_empty : (w : ℕ) → is_binding w ≡ true → w % 2 ≡ 0 → word_of (binding_word (empty (row_at w))) ≡ w
is_empty w h z = let k = of_binding w h in omega (arith, k.kind, k.low, k.high)

is_ready : (w : ℕ) (t : Term) → is_binding w ≡ true → w % 2 ≡ 1 → word_of (binding_word (ready (row_at w) t)) ≡ w
is_ready w t h z = let k = of_binding w h in omega (arith, k.kind, k.low, k.high)

-- the binding of a word and its body, if it has one; the bindings behind it come in as `more`
one_binding :
    (n b i e w m : ℕ) (ws : List ℕ) → is_binding w ≡ true → w % 2 ≡ m →
    ((j : ℕ) (vs : List ℕ) → reach n 0 b j vs ≡ Some e → SomeBindings n b j e vs) → reach n m b (i + 1) ws ≡ Some e →
    SomeBindings n (suc b) i e (w ∷ ws)
one_binding n b i e w zero ws k z more h =
    let r = more (i + 1) ws h in
    record {
      whole = empty (row_at w) ∷ r.whole;
      rest = r.rest;
      right = ((row_fits (row_at w) (omega arith), tt), r.right);
      count = ap suc r.count;
      same = λ j. sym (is_empty w k z) j ∷ r.same j;
      ends = omega (arith, r.ends);
    }
one_binding n b i e w (suc zero) ws k z more h =
    let t = one_term n b (i + 1) e ws h in
    let r = more (i + 1 + size t.whole) t.rest t.onward in
    let u = t.whole in
    record {
      whole = ready (row_at w) u ∷ r.whole;
      rest = r.rest;
      right = (((row_fits (row_at w) (omega arith), t.right.0), t.right.1), r.right);
      count = ap suc r.count;
      same =
          (λ j. sym (is_ready w u k z) j ∷ (t.same ∙ ap (λ l. encode u ++ l) r.same) j)
          ∙ ap (λ l. word_of (binding_word (ready (row_at w) u)) ∷ l) (sym (append_assoc (encode u) (bindings_words r.whole) r.rest));
      ends = omega (arith, r.ends, length_encode u, length-append (encode u) (bindings_words r.whole));
    }
one_binding n b i e w (suc (suc m)) ws k z more h = absurd (omega arith)

some_bindings : (n b i e : ℕ) (ws : List ℕ) → reach n 0 b i ws ≡ Some e → SomeBindings n b i e ws
some_bindings n zero i e ws h =
    let z : i ≡ e = cc in record { whole = []; rest = ws; right = tt; count = refl; same = refl; ends = omega arith }
some_bindings n (suc b) i e [] h = absurd (none-some e h)
some_bindings n (suc b) i e (w ∷ ws) h =
    let q = passed_test (is_binding w) (reach n (w % 2) b (i + 1) ws) e h in
    one_binding n b i e w (w % 2) ws q.0 refl (λ j vs. some_bindings n b j e vs) q.1

-- a term and b bindings stand at the front of ws, from place i to place e
pub record Reached (n b i e : ℕ) (ws : List ℕ) : Type 0 where
  pub term : Term
  pub bindings : Bindings
  pub rest : List ℕ
  pub right : Right n term
  pub bindings_right : AllByRecursion (RightBinding n) bindings
  pub count : length bindings ≡ b
  pub same : ws ≡ encode term ++ (bindings_words bindings ++ rest)
  pub ends : e ≡ i + size term + length (bindings_words bindings)

pub reached : (n b i e : ℕ) (ws : List ℕ) → reach n 1 b i ws ≡ Some e → Reached n b i e ws
reached n b i e ws h =
    let t = one_term n b i e ws h in
    let r = some_bindings n b (i + size t.whole) e t.rest t.onward in
    record {
      term = t.whole;
      bindings = r.whole;
      rest = r.rest;
      right = t.right;
      bindings_right = r.right;
      count = r.count;
      same = t.same ∙ ap (λ l. encode t.whole ++ l) r.same;
      ends = r.ends;
    }

-- bindings that keep the rules are passed over
pub ready_row : (r f : ℕ) → (ltb f 2 && (ltb r (2 ^ 9) && true)) ≡ true → (r < 2 ^ 9) × (f < 2)
ready_row r f h =
    let p = and_parts (ltb f 2) (ltb r (2 ^ 9) && true) h in
    (ltb-true r (2 ^ 9) (and_parts (ltb r (2 ^ 9)) true p.1).0, ltb-true f 2 p.0)

known : (r f w : ℕ) → r < 2 ^ 9 → f < 2 → w ≡ 15 * 2 ^ 27 + (f + r * 2 ^ 12) → is_binding w ≡ true
known r f w h g e =
    let k : kind_at w ≡ 15 = omega arith in
    let l : w % 2 ^ 12 < 2 = omega arith in
    let m : w / 2 ^ 12 % 2 ^ 15 < 2 ^ 9 = omega arith in
    and_from (eqb (kind_at w) 15) _ (eq-eqb (kind_at w) 15 k)
    (and_from (ltb (w % 2 ^ 12) 2) _ (lt-ltb (w % 2 ^ 12) 2 l) (lt-ltb (w / 2 ^ 12 % 2 ^ 15) (2 ^ 9) m))

pub binding_known : (β : Binding) → fit (fields_of (binding_word β)) ≡ true → is_binding (word_of (binding_word β)) ≡ true
binding_known (empty r) h = known r 0 (word_of (binding_word (empty r))) (ready_row r 0 h).0 (omega arith) (omega arith)
binding_known (ready r t) h = known r 1 (word_of (binding_word (ready r t))) (ready_row r 1 h).0 (omega arith) (omega arith)

pub empty_bit : (r : ℕ) → word_of (binding_word (empty r)) % 2 ≡ 0
empty_bit r = omega arith

pub ready_bit : (r : ℕ) (t : Term) → word_of (binding_word (ready r t)) % 2 ≡ 1
ready_bit r t = omega arith

pub reach_bindings :
    (n : ℕ) (μ : Bindings) → AllByRecursion (RightBinding n) μ → (i : ℕ) (rest : List ℕ) →
    reach n 0 (length μ) i (bindings_words μ ++ rest) ≡ Some (i + length (bindings_words μ))
reach_bindings n [] a i rest = ap Some (omega arith)
reach_bindings n (empty r ∷ μ) a i rest =
    let z = empty_bit r in
    let k : i + 1 + length (bindings_words μ) ≡ i + suc (length (bindings_words μ)) = omega arith in
    rw (binding_known (empty r) a.0.0, z) (reach_bindings n μ a.1 (i + 1) rest ∙ ap Some k)
reach_bindings n (ready r t ∷ μ) a i rest =
    let z = ready_bit r t in
    let k : i + 1 + size t + length (bindings_words μ) ≡ i + suc (length (encode t ++ bindings_words μ)) =
    omega (arith, length_encode t, length-append (encode t) (bindings_words μ)) in
    rw (binding_known (ready r t) a.0.0.0, z)
    (ap (reach n 1 (length μ) (i + 1)) (append_assoc (encode t) (bindings_words μ) rest)
    ∙ reach_term n (length μ) t (a.0.0.1, a.0.1) 0 (i + 1) (bindings_words μ ++ rest)
    ∙ reach_bindings n μ a.1 (i + 1 + size t) rest ∙ ap Some k)
