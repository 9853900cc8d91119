-- What an operation writes, and when it applies.
use Rattle.std.proofs.Common.{◌≡◌, ℕ, ◌+◌, ◌/◌, ◌%◌, ◌^◌, ◌<◌, Bool, true, false, cond, ◌&&◌, eqb, List, [], ◌∷◌, ◌++◌, get_or, Some, None, sym, refl, ap, ◌∙◌, subst, append_assoc, arith}
use Rattle.std.specs.List.{between}
use Rattle.std.proofs.lemmas.Bool.{eq-eqb, ne_eqb}
use Rattle.quantities.specs.declared.Signature.{Signature}
use Rattle.quantities.specs.Meaning.{Meaning, StatedAt, ClosedAt, Lawful as Law}
use Rattle.calculus.specs.Terms.{Term, atom, operation}
use Rattle.calculus.specs.Configurations.{Bindings, Configuration, ◌∣◌}
use Rattle.calculus.specs.Views.{view}
use Rattle.calculus.specs.Redexes.{operated, operates_second, operates}
use Rattle.layout.specs.declared.Word.TheVariants as W
use Rattle.layout.specs.Layout.{word_of}
use Rattle.encoding.specs.Encoding.{first_word, encode}
use Rattle.image.specs.Images.{words_of, used}
use Rattle.image.specs.Places.{At, Passed}
use Rattle.image.specs.Reading.{kind_at}
use Rattle.writing.proofs.Building.{next_word}
use Rattle.lines.specs.Lines.{Hole}
use Rattle.lines.proofs.Sorts.{kind_of_term, plain_not, Viewed, seen_abstraction, seen_coroutine, seen_instance, seen_atom, seen_suspension, seen_other}
use Rattle.lines.proofs.Fields.{first_here, kind_here, operation_number, atom_payload, atom_base}
use Rattle.lines.proofs.Segments.{after, same_bindings}
use Rattle.lines.proofs.Written.{Past}

-- a term of kind 10 is an atom
pub by_atom : (G : Term → Type 0) (f : Term) → Viewed f → kind_of_term f ≡ 10 → ((k p : ℕ) → G (atom k p)) → G f
by_atom G _ (seen_abstraction x r b) e z = absurd (omega arith)
by_atom G _ (seen_coroutine x r b) e z = absurd (omega arith)
by_atom G _ (seen_instance l r) e z = absurd (omega arith)
by_atom G _ (seen_atom k p) e z = z k p
by_atom G _ (seen_suspension t v) e z = absurd (omega arith)
by_atom G _ (seen_other t p) e z = plain_not p 10 refl e

-- and so of two
pub by_atoms :
    (G : Term → Term → Type 0) (a b : Term) → Viewed a → Viewed b → kind_of_term a ≡ 10 → kind_of_term b ≡ 10 →
    ((j p k q : ℕ) → G (atom j p) (atom k q)) → G a b
by_atoms G a b u v e f z = by_atom (λ x. G x b) a u e (λ j p. by_atom (λ y. G (atom j p) y) b v f (λ k q. z j p k q))

module _ (Q : Meaning) (o : ℕ) (μ : Bindings) where
  pub no_first : (a : Term) → Viewed a → (b : Term) → (kind_of_term a ≡ 10 → ⊥) → operates Q o (view a) (view b) μ ≡ None
  no_first _ (seen_abstraction x r t) b e = refl
  no_first _ (seen_coroutine x r t) b e = refl
  no_first _ (seen_instance l r) b e = refl
  no_first _ (seen_atom k p) b e = absurd (e refl)
  no_first _ (seen_suspension t v) b e = refl
  no_first _ (seen_other t p) b e = ap (λ w. operates Q o w (view b) μ) p.shows

  pub no_second : (k p : ℕ) (b : Term) → Viewed b → (kind_of_term b ≡ 10 → ⊥) → operates Q o (view (atom k p)) (view b) μ ≡ None
  no_second k p _ (seen_abstraction x r t) e = refl
  no_second k p _ (seen_coroutine x r t) e = refl
  no_second k p _ (seen_instance l r) e = refl
  no_second k p _ (seen_atom j q) e = absurd (e refl)
  no_second k p _ (seen_suspension t v) e = refl
  no_second k p _ (seen_other t s) e = ap (λ w. operates_second Q o p k w μ) s.shows

-- the tests of an operation: of its signature, its bases and its payloads
module _ (Q : Meaning) (o p j q k : ℕ) (μ : Bindings) where
  pub unsigned : None ≡ Q.signature o → operated Q o p j q k (Q.signature o) μ ≡ None
  unsigned e = sym (ap (λ s. operated Q o p j q k s μ) e)

  module _ (s : Signature) (e : Some s ≡ Q.signature o) where
    by_tests : (x y z w : Bool) → eqb j s.first ≡ x → eqb k s.second ≡ y → Q.holds j p ≡ z → Q.holds k q ≡ w →
        operated Q o p j q k (Q.signature o) μ ≡ cond (x && y && z && w) (Some (atom s.result (Q.result o p q) ∣ μ)) None
    by_tests x y z w ex ey ez ew =
        sym (ap (λ s. operated Q o p j q k s μ) e)
        ∙ (λ i. cond (ex i && ey i && ez i && ew i) (Some (atom s.result (Q.result o p q) ∣ μ)) None)

    pub other_first : (j ≡ s.first → ⊥) → operated Q o p j q k (Q.signature o) μ ≡ None
    other_first h = by_tests false (eqb k s.second) (Q.holds j p) (Q.holds k q) (ne_eqb j s.first h) refl refl refl

    pub other_second : j ≡ s.first → (k ≡ s.second → ⊥) → operated Q o p j q k (Q.signature o) μ ≡ None
    other_second f h =
        by_tests true false (Q.holds j p) (Q.holds k q) (eq-eqb j s.first f) (ne_eqb k s.second h) refl refl

    pub first_not_held : j ≡ s.first → k ≡ s.second → Q.holds j p ≡ false → operated Q o p j q k (Q.signature o) μ ≡ None
    first_not_held f h x = by_tests true true false (Q.holds k q) (eq-eqb j s.first f) (eq-eqb k s.second h) x refl

    pub second_not_held : j ≡ s.first → k ≡ s.second → Q.holds j p ≡ true → Q.holds k q ≡ false →
        operated Q o p j q k (Q.signature o) μ ≡ None
    second_not_held f h x y = by_tests true true true false (eq-eqb j s.first f) (eq-eqb k s.second h) x y

    module _ (f : j ≡ s.first) (h : k ≡ s.second) (x : Q.holds j p ≡ true) (y : Q.holds k q ≡ true) where
      pub gives : operated Q o p j q k (Q.signature o) μ ≡ Some (atom s.result (Q.result o p q) ∣ μ)
      gives = by_tests true true true true (eq-eqb j s.first f) (eq-eqb k s.second h) x y

      -- the result has a word
      pub small : Law Q → (s.result < 8) × (Q.result o p q < 2 ^ 24)
      small law =
          let c : ClosedAt Q o (Some s) = subst (ClosedAt Q o) (sym e) (law.closed o) in
          let t : StatedAt Q (Some s) = subst (StatedAt Q) (sym e) (law.stated o) in
          let few = law.few.1 in
          (omega (arith, t.2), (c p q (ap (λ i. Q.holds i p) (sym f) ∙ x) (ap (λ i. Q.holds i q) (sym h) ∙ y)).1)

module _
    (image : List ℕ) (c : Configuration) (K : Term → Term) (p us o : ℕ) (a b : Term) (h : Hole image c p (operation o a b) K)
    (q : us ≡ used c) where
  first_at : At a (encode b ++ after image c h.behind) (p + 1) image
  first_at = record {
    fits = h.right.0.1;
    words = (next_word image p _ _ h.here).1 ∙ append_assoc (encode a) (encode b) (after image c h.behind);
  }

  pub own_number : get_or image p 0 % 2 ^ 8 ≡ o
  own_number = ap (λ w. w % 2 ^ 8) (next_word image p _ _ h.here).0 ∙ operation_number o a b h.right.0.0

  pub first_word_is : get_or image (p + 1) 0 ≡ word_of (first_word a)
  first_word_is = (first_here a _ (p + 1) image first_at).0

  pub first_kind : kind_at (get_or image (p + 1) 0) ≡ kind_of_term a
  first_kind = kind_here a _ (p + 1) image first_at

  module _ (m : ℕ) (pm : Past image (p + 1) m) where
    one : Passed a (encode b ++ after image c h.behind) (p + 1) m image
    one = pm a _ first_at

    second_at : At b (after image c h.behind) m image
    second_at = record { fits = h.right.0.2; words = one.behind }

    pub second_word_is : get_or image m 0 ≡ word_of (first_word b)
    second_word_is = (first_here b _ m image second_at).0

    pub second_kind : kind_at (get_or image m 0) ≡ kind_of_term b
    second_kind = kind_here b _ m image second_at

    pub operation_words : (stop : ℕ) → Past image m stop → (k x : ℕ) →
        between 1 p image ++ (word_of (W.Atom k x) ∷ between stop us image) ≡ words_of (K (atom k x) ∣ c.bindings)
    operation_words stop ps k x =
        let w = ps b _ second_at in
        same_bindings image c p (operation o a b) K h stop us (omega (arith, one.ends, w.ends)) q w.behind
        (word_of (W.Atom k x) ∷ []) (atom k x) refl

-- what is read at two atoms is what stands there
module _
    (image : List ℕ) (c : Configuration) (K : Term → Term) (p us o j v i r : ℕ)
    (h : Hole image c p (operation o (atom j v) (atom i r)) K) (q : us ≡ used c) (m : ℕ) (pm : Past image (p + 1) m)
    (Q : Meaning) (μ : Bindings) (o' v' j' r' i' w x y : ℕ) (ew : w ≡ get_or image p 0) (ex : x ≡ get_or image (p + 1) 0)
    (ey : y ≡ get_or image m 0) (eo : o' ≡ w % 2 ^ 8) (ev : v' ≡ x % 2 ^ 24) (ej : j' ≡ x / 2 ^ 24 % 2 ^ 3) (er : r' ≡ y % 2 ^ 24)
    (ei : i' ≡ y / 2 ^ 24 % 2 ^ 3) where
  pub operands_read : operates Q o (view (atom j v)) (view (atom i r)) μ ≡ operated Q o' v' j' r' i' (Q.signature o') μ
  operands_read =
      let fx : x ≡ word_of (first_word (atom j v)) = ex ∙ first_word_is image c K p us o (atom j v) (atom i r) h q in
      let fy : y ≡ word_of (first_word (atom i r)) = ey ∙ second_word_is image c K p us o (atom j v) (atom i r) h q m pm in
      let qo : o ≡ o' = sym (eo ∙ ap (λ z. z % 2 ^ 8) ew ∙ own_number image c K p us o (atom j v) (atom i r) h q) in
      let qv : v ≡ v' = sym (ev ∙ ap (λ z. z % 2 ^ 24) fx ∙ atom_payload j v h.right.0.1) in
      let qj : j ≡ j' = sym (ej ∙ ap (λ z. z / 2 ^ 24 % 2 ^ 3) fx ∙ atom_base j v h.right.0.1) in
      let qr : r ≡ r' = sym (er ∙ ap (λ z. z % 2 ^ 24) fy ∙ atom_payload i r h.right.0.2) in
      let qi : i ≡ i' = sym (ei ∙ ap (λ z. z / 2 ^ 24 % 2 ^ 3) fy ∙ atom_base i r h.right.0.2) in
      λ t. operated Q (qo t) (qv t) (qj t) (qr t) (qi t) (Q.signature (qo t)) μ
