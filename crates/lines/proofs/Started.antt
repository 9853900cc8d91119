-- What the lines write that add a binding: a start and a snapshot.
use Rattle.std.proofs.Common.{◌≡◌, ℕ, ◌+◌, ◌<◌, true, List, [], ◌∷◌, ◌++◌, length, get_or, drop, sym, refl, ap, ◌∙◌, append_assoc, arith}
use Rattle.std.specs.List.{between}
use Rattle.calculus.specs.Terms.{Term, start, snapshot, instance}
use Rattle.calculus.specs.Replacement.{replace}
use Rattle.calculus.specs.Configurations.{Binding, ready, row_of, Configuration, ◌∣◌}
use Rattle.layout.specs.declared.Word.TheVariants as W
use Rattle.layout.specs.Layout.{word_of}
use Rattle.encoding.specs.Encoding.{encode}
use Rattle.image.specs.Images.{binding_words, words_of, used}
use Rattle.image.specs.Places.{At, Bound}
use Rattle.image.specs.Reading.{kind_at, label_at, row_at}
use Rattle.writing.specs.Replacing.{replaced}
use Rattle.writing.proofs.Building.{cut, next_word}
use Rattle.lines.specs.Lines.{Hole}
use Rattle.lines.proofs.Sorts.{kind_of_term}
use Rattle.lines.proofs.Fields.{first_here, kind_here, instance_label, start_row}
use Rattle.lines.proofs.Binders.{Binder, new_body}
use Rattle.lines.proofs.Segments.{after, more_bindings}
use Rattle.lines.proofs.Written.{Past}
use Rattle.lines.proofs.Instances.{row_here}

-- a start
module _
    (image : List ℕ) (c : Configuration) (K : Term → Term) (p us i : ℕ) (f v : Term) (h : Hole image c p (start i f v) K)
    (q : us ≡ used c) where
  started_at : At f (encode v ++ after image c h.behind) (p + 1) image
  started_at = record {
    fits = h.right.0.1;
    words = (next_word image p _ _ h.here).1 ∙ append_assoc (encode f) (encode v) (after image c h.behind);
  }

  pub started_kind : kind_at (get_or image (p + 1) 0) ≡ kind_of_term f
  started_kind = kind_here f _ (p + 1) image started_at

  own_row : row_at (get_or image p 0) ≡ i
  own_row = ap row_at (next_word image p _ _ h.here).0 ∙ start_row i f v h.right.0.0

  pub start_words : (k : Binder f) (y mid stop n r : ℕ) → y ≡ label_at (get_or image (p + 1) 0) → n ≡ length c.bindings →
      r ≡ row_at (get_or image p 0) → Past image (p + 2) mid → Past image mid stop →
      between 1 p image ++ (word_of (W.Instance n r) ∷ (between stop us image ++ (word_of (W.Binding true r)
      ∷ replaced y (between mid stop image) 0 (between (p + 2) mid image))))
      ≡ words_of (K (instance (length c.bindings) i) ∣ (c.bindings ++ ready i (replace k.x v k.b) ∷ []))
  start_words k y mid stop n r m nn rr pm ps =
      let two : p + 1 + 1 ≡ p + 2 = omega arith in
      let vs : List ℕ = encode v ++ after image c h.behind in
      let d = sym (ap (λ j. drop j image) two) ∙ (next_word image (p + 1) _ _ (started_at.words ∙ ap (λ l. l ++ vs) k.words)).1 in
      let a = pm k.b vs (record { fits = k.fits h.right.0.1; words = d }) in
      let w = ps v (after image c h.behind) (record { fits = h.right.0.2; words = a.behind }) in
      let row : r ≡ i = rr ∙ own_row in
      let name : y ≡ k.x = m ∙ ap label_at (first_here f _ (p + 1) image started_at).0 ∙ k.name h.right.0.1 in
      let body = new_body k.x v k.b y _ _ name w.words a.words (k.fits h.right.0.1) in
      more_bindings image c p (start i f v) K h stop us (omega (arith, a.ends, w.ends, k.long)) q w.behind
      (word_of (W.Instance n r) ∷ []) _ (instance (length c.bindings) i) (ready i (replace k.x v k.b))
      (λ j. word_of (W.Instance (nn j) (row j)) ∷ []) (λ j. word_of (W.Binding true (row j)) ∷ body j)

-- a snapshot
module _ (image : List ℕ) (c : Configuration) (K : Term → Term) (p us : ℕ) (f : Term) (h : Hole image c p (snapshot f) K) where
  pub copied_kind : kind_at (get_or image (p + 1) 0) ≡ kind_of_term f
  copied_kind =
      kind_here f (after image c h.behind) (p + 1) image
      (record { fits = h.right.0.1; words = (next_word image p _ _ h.here).1 })

module _
    (image : List ℕ) (c : Configuration) (K : Term → Term) (p us l r : ℕ) (h : Hole image c p (snapshot (instance l r)) K)
    (g : us ≡ used c) where
  copied_own : (get_or image (p + 1) 0 ≡ word_of (W.Instance l r)) × (drop (p + 1 + 1) image ≡ after image c h.behind)
  copied_own = next_word image (p + 1) _ _ (next_word image p _ _ h.here).1

  pub copied_label : label_at (get_or image (p + 1) 0) ≡ l
  copied_label = ap label_at copied_own.0 ∙ instance_label l r h.right.0.1

  pub copied_below : l < length c.bindings
  copied_below = h.right.1

  pub copy_words : (β : Binding) (q z n s : ℕ) (w : Bound image c l β q) → z ≡ q + length (binding_words β) → n ≡ length c.bindings →
      s ≡ row_at (get_or image q 0) →
      between 1 p image ++ (word_of (W.Instance n s) ∷ (between (p + 2) us image ++ between q z image))
      ≡ words_of (K (instance (length c.bindings) (row_of β)) ∣ (c.bindings ++ β ∷ []))
  copy_words β q z n s w ez en es =
      let two : p + 2 ≡ p + 1 + 1 = omega arith in
      let ns = es ∙ row_here image c l β q w in
      more_bindings image c p (snapshot (instance l r)) K h (p + 2) us refl g (ap (λ j. drop j image) two ∙ copied_own.1)
      (word_of (W.Instance n s) ∷ []) (between q z image) (instance (length c.bindings) (row_of β)) β
      (λ j. word_of (W.Instance (en j) (ns j)) ∷ []) (cut image (binding_words β) _ q z ez w.here).0
