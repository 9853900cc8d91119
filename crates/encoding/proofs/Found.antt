-- Words that the scan accepts are those of terms.
use Rattle.std.proofs.Common.{◌≡◌, ℕ, zero, suc, ◌+◌, ◌/◌, ◌^◌, ◌≤◌, Bool, true, false, cond, ltb, List, [], ◌∷◌, ◌++◌, length, get_or, take, drop, Some, None, Option, sym, refl, ap, ◌∙◌, subst, arith}
use Rattle.std.specs.List.{AllByRecursion}
use Rattle.std.proofs.lemmas.Bool.{false≢true}
use Rattle.std.proofs.lemmas.Option.{none-some}
use Rattle.std.proofs.lemmas.List.{take-append-drop, length-drop}
use Rattle.std.proofs.ByRecursion.{All-take, All-drop}
use Rattle.calculus.specs.Terms.{Term, unit}
use Rattle.calculus.specs.Parts.{parts}
use Rattle.words.specs.Kinds.{number_of}
use Rattle.layout.specs.declared.Word.{Word}
use Rattle.layout.specs.declared.Word.TheVariants as W
use Rattle.layout.specs.Layout.{kind_of, fields_of, fit, word_of, Reads, read_word}
use Rattle.layout.proofs.Exact.{read_exact}
use Rattle.encoding.specs.Encoding.{first_word, encode, encodes, FirstFits, Fits}
use Rattle.encoding.specs.Scanning.{part_counts, arity_of, of_term, is_term_word, scan}
use Rattle.encoding.proofs.Parts.{encode_is, parts_fit, encodes_append}
use Rattle.encoding.specs.Decoding.{node}
use Rattle.encoding.proofs.FirstWord.{first_kind}

one : (ts : List Term) → 1 ≤ length ts → get_or ts 0 unit ∷ [] ≡ take 1 ts
one [] h = absurd (omega arith)
one (t ∷ ts) h = refl

two : (ts : List Term) → 2 ≤ length ts → get_or ts 0 unit ∷ get_or ts 1 unit ∷ [] ≡ take 2 ts
two [] h = absurd (omega arith)
two (t ∷ ts) h = ap (λ us. t ∷ us) (one ts (omega arith))

four : (ts : List Term) → 4 ≤ length ts → get_or ts 0 unit ∷ get_or ts 1 unit ∷ get_or ts 2 unit ∷ get_or ts 3 unit ∷ [] ≡ take 4 ts
four [] h = absurd (omega arith)
four (t ∷ []) h = absurd (omega arith)
four (t ∷ u ∷ ts) h = ap (λ us. t ∷ u ∷ us) (two ts (omega arith))

-- a word of a term and terms for its parts make a term of that word and those parts
abbrev Joined : Word → List Term → Type 0
Joined x ts =
    let n = get_or part_counts (number_of (kind_of x)) 0 in
    (first_word (node x ts) ≡ x) × (n ≤ length ts → parts (node x ts) ≡ take n ts)

joined : (x : Word) (ts : List Term) → ltb (number_of (kind_of x)) 15 ≡ true → Joined x ts
joined W.Unit ts h = (refl, λ n. refl)
joined (W.Variable name) ts h = (refl, λ n. refl)
joined (W.Abstraction name row) ts h = (refl, one ts)
joined (W.Coroutine name row) ts h = (refl, one ts)
joined W.Application ts h = (refl, two ts)
joined W.Yield ts h = (refl, one ts)
joined (W.Start row) ts h = (refl, two ts)
joined W.Resume ts h = (refl, four ts)
joined W.Snapshot ts h = (refl, one ts)
joined W.Fix ts h = (refl, one ts)
joined (W.Atom base payload) ts h = (refl, λ n. refl)
joined (W.Operation number) ts h = (refl, two ts)
joined (W.Instance label row) ts h = (refl, λ n. refl)
joined (W.Resumption label) ts h = (refl, four ts)
joined W.Suspension ts h = (refl, two ts)
joined (W.Binding ready row) ts h = absurd (false≢true h)
joined W.UnitType ts h = absurd (false≢true h)
joined W.BottomType ts h = absurd (false≢true h)
joined (W.BaseType base) ts h = absurd (false≢true h)
joined (W.FunctionType argument result) ts h = absurd (false≢true h)
joined (W.CoroutineType argument yields result) ts h = absurd (false≢true h)
joined (W.InstanceType yields result) ts h = absurd (false≢true h)
joined (W.ProgramHead rows term_words) ts h = absurd (false≢true h)
joined (W.ImageHead used bindings) ts h = absurd (false≢true h)

-- the term that a word of a term makes with the first of some terms
record Made (w : ℕ) (ts : List Term) : Type 0 where
  whole : Term
  fits : Fits whole
  first : word_of (first_word whole) ≡ w
  rest : parts whole ≡ take (arity_of w) ts

made_of :
    (w : ℕ) (x : Word) (ts : List Term) → AllByRecursion Fits ts → Reads w x → ltb (number_of (kind_of x)) 15 ≡ true →
    arity_of w ≤ length ts → Made w ts
made_of w x ts a r k n =
    let j = joined x ts k in
    let f : FirstFits (node x ts) = ap (λ y. fit (fields_of y)) j.0 ∙ r.fits in
    let i : word_of (first_word (node x ts)) ≡ w = ap word_of j.0 ∙ sym r.is in
    let q : w / 2 ^ 27 ≡ number_of (kind_of x) = ap (λ v. v / 2 ^ 27) (sym i) ∙ first_kind (node x ts) f ∙ ap (λ y. number_of (kind_of y)) j.0 in
    let c : arity_of w ≡ get_or part_counts (number_of (kind_of x)) 0 = ap (λ m. get_or part_counts m 0) q in
    let p : parts (node x ts) ≡ take (arity_of w) ts = j.1 (subst (λ m. m ≤ length ts) c n) ∙ ap (λ m. take m ts) (sym c) in
    record {
      whole = node x ts;
      fits = parts_fit (node x ts) f (subst (λ us. AllByRecursion Fits us) (sym p) (All-take Fits (arity_of w) ts a));
      first = i;
      rest = p;
    }

made_read :
    (w : ℕ) (ts : List Term) (o : Option Word) → read_word w ≡ o → of_term o ≡ true → AllByRecursion Fits ts → arity_of w ≤ length ts → Made w ts
made_read w ts None e k a n = absurd (false≢true k)
made_read w ts (Some x) e k a n = made_of w x ts a ((read_exact w x).1 e) k n

-- n terms stand at the front of words, from place i to place e
pub record Found (n i e : ℕ) (ws : List ℕ) : Type 0 where
  pub terms : List Term
  pub rest : List ℕ
  pub fits : AllByRecursion Fits terms
  pub count : length terms ≡ n
  pub same : ws ≡ encodes terms ++ rest
  pub ends : e ≡ i + length (encodes terms)

one_more : (n i e w : ℕ) (ws : List ℕ) → is_term_word w ≡ true → Found (n + arity_of w) (i + 1) e ws → Found (suc n) i e (w ∷ ws)
one_more n i e w ws accepted r =
    let ts = r.terms in
    let m = made_read w ts (read_word w) refl accepted r.fits (omega (arith, r.count)) in
    let t = m.whole in
    let us = drop (arity_of w) ts in
    let words : encode t ++ encodes us ≡ w ∷ encodes ts =
    rw (encode_is t, m.first, m.rest, ← encodes_append (take (arity_of w) ts) us, take-append-drop (arity_of w) ts) refl in
    record {
      terms = t ∷ us;
      rest = r.rest;
      fits = (m.fits, All-drop Fits (arity_of w) ts r.fits);
      count = omega (arith, length-drop (arity_of w) ts, r.count);
      same = rw (words, r.same) refl;
      ends = omega (arith, ap length words, r.ends);
    }

-- the scan of the words behind the first one comes in as `more`
by_test :
    (n i e w : ℕ) (ws : List ℕ) (b : Bool) → is_term_word w ≡ b →
    (scan (n + arity_of w) (i + 1) ws ≡ Some e → Found (n + arity_of w) (i + 1) e ws) →
    cond b (scan (n + arity_of w) (i + 1) ws) None ≡ Some e → Found (suc n) i e (w ∷ ws)
by_test n i e w ws true t more h = one_more n i e w ws t (more h)
by_test n i e w ws false t more h = absurd (none-some e h)

pub found : (ws : List ℕ) (n i e : ℕ) → scan n i ws ≡ Some e → Found n i e ws
found [] zero i e h =
    let z : i ≡ e = cc in record { terms = []; rest = []; fits = tt; count = refl; same = refl; ends = omega arith }
found [] (suc n) i e h = absurd (none-some e h)
found (w ∷ ws) zero i e h =
    let z : i ≡ e = cc in record { terms = []; rest = w ∷ ws; fits = tt; count = refl; same = refl; ends = omega arith }
found (w ∷ ws) (suc n) i e h = by_test n i e w ws (is_term_word w) refl (found ws (n + arity_of w) (i + 1) e) h
