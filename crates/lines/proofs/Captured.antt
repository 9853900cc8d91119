-- What a resumption writes whose body is a suspension or a value.
use Rattle.std.proofs.Common.{◌≡◌, ℕ, ◌+◌, ◌<◌, true, List, ◌∷◌, ◌++◌, length, get_or, drop, sym, refl, ap, ◌∙◌, append_assoc, arith}
use Rattle.std.specs.List.{between}
use Rattle.calculus.specs.Lists.{put}
use Rattle.calculus.specs.Terms.{Term, application, resumption, suspension}
use Rattle.calculus.specs.Configurations.{empty, ready, Configuration, ◌∣◌}
use Rattle.layout.specs.declared.Word.TheVariants as W
use Rattle.layout.specs.Layout.{word_of}
use Rattle.encoding.specs.Encoding.{encode}
use Rattle.image.specs.Images.{words_of, used}
use Rattle.image.specs.Places.{Bound}
use Rattle.image.specs.Reading.{label_at, row_at}
use Rattle.writing.proofs.Building.{next_word}
use Rattle.lines.specs.Lines.{Hole}
use Rattle.lines.proofs.Fields.{resumption_label}
use Rattle.lines.proofs.Segments.{after, same_bindings, other_binding}
use Rattle.lines.proofs.Written.{Past}
use Rattle.lines.proofs.Instances.{row_here}

-- a suspension is captured
module _
    (image : List ℕ) (c : Configuration) (K : Term → Term) (p us l : ℕ) (t v b d e : Term)
    (h : Hole image c p (resumption l (suspension t v) b d e) K) (g : us ≡ used c) where
  abbrev rest : List ℕ
  rest = after image c h.behind

  capture_own :
      (get_or image p 0 ≡ word_of (W.Resumption l)) ×
      (drop (p + 1) image ≡ word_of W.Suspension ∷ (((encode t ++ encode v) ++ (encode b ++ (encode d ++ encode e))) ++ rest))
  capture_own = next_word image p _ _ h.here

  pub capture_label : label_at (get_or image p 0) ≡ l
  capture_label = ap label_at capture_own.0 ∙ resumption_label l (suspension t v) b d e h.right.0.0

  pub capture_below : l < length c.bindings
  capture_below = h.right.1.0

  capture_parts : drop (p + 2) image ≡ encode t ++ (encode v ++ (encode b ++ (encode d ++ (encode e ++ rest))))
  capture_parts =
      let two : p + 2 ≡ p + 1 + 1 = omega arith in
      ap (λ j. drop j image) two ∙ (next_word image (p + 1) _ _ capture_own.1).1 ∙ simp append_assoc

  pub capture_words : (m n o r stop : ℕ) → Past image (p + 2) m → Past image m n → Past image n o → Past image o r → Past image r stop →
      (i q s : ℕ) (w : Bound image c l (empty i) q) → s ≡ row_at (get_or image q 0) →
      between 1 p image ++ (word_of W.Application ∷ (between o r image ++ (between m n image ++ (between stop q image
      ++ (word_of (W.Binding true s) ∷ (between (p + 2) m image ++ between (q + 1) us image))))))
      ≡ words_of (K (application d v) ∣ put c.bindings l (ready i t))
  capture_words m n o r stop pm pn po pr ps i q s w es =
      let x = pm t _ (record { fits = h.right.0.1.1; words = capture_parts }) in
      let y = pn v _ (record { fits = h.right.0.1.2; words = x.behind }) in
      let z = po b _ (record { fits = h.right.0.2; words = y.behind }) in
      let a = pr d _ (record { fits = h.right.0.3; words = z.behind }) in
      let k = ps e _ (record { fits = h.right.0.4; words = a.behind }) in
      let ns : s ≡ i = es ∙ row_here image c l (empty i) q w in
      sym (ap (λ k. between 1 p image ++ (word_of W.Application ∷ k)) (append_assoc (between o r image) (between m n image) _))
      ∙ other_binding image c p (resumption l (suspension t v) b d e) K h l (empty i) q w stop us (q + 1)
      (omega (arith, x.ends, y.ends, z.ends, a.ends, k.ends)) g refl k.behind
      (word_of W.Application ∷ (between o r image ++ between m n image)) (word_of (W.Binding true s) ∷ between (p + 2) m image)
      (application d v) (ready i t) (λ j. word_of W.Application ∷ (a.words j ++ y.words j))
      (λ j. word_of (W.Binding true (ns j)) ∷ x.words j)

-- a value ends it
module _
    (image : List ℕ) (c : Configuration) (K : Term → Term) (p us l : ℕ) (v b d e : Term) (h : Hole image c p (resumption l v b d e) K)
    (g : us ≡ used c) where
  end_own :
      (get_or image p 0 ≡ word_of (W.Resumption l)) ×
      (drop (p + 1) image ≡ (encode v ++ (encode b ++ (encode d ++ encode e))) ++ after image c h.behind)
  end_own = next_word image p _ _ h.here

  pub end_label : label_at (get_or image p 0) ≡ l
  end_label = ap label_at end_own.0 ∙ resumption_label l v b d e h.right.0.0

  pub end_below : l < length c.bindings
  end_below = h.right.1.0

  pub end_words : (m n o stop : ℕ) → Past image (p + 1) m → Past image m n → Past image n o → Past image o stop →
      between 1 p image ++ (word_of W.Application ∷ (between m n image ++ (between (p + 1) m image ++ between stop us image)))
      ≡ words_of (K (application b v) ∣ c.bindings)
  end_words m n o stop pm pn po ps =
      let x = pm v (encode b ++ (encode d ++ (encode e ++ after image c h.behind)))
      (record { fits = h.right.0.1; words = end_own.1 ∙ simp append_assoc }) in
      let y = pn b _ (record { fits = h.right.0.2; words = x.behind }) in
      let z = po d _ (record { fits = h.right.0.3; words = y.behind }) in
      let k = ps e _ (record { fits = h.right.0.4; words = z.behind }) in
      sym (ap (λ k. between 1 p image ++ (word_of W.Application ∷ k)) (append_assoc (between m n image) (between (p + 1) m image) _))
      ∙ same_bindings image c p (resumption l v b d e) K h stop us (omega (arith, x.ends, y.ends, z.ends, k.ends)) g k.behind
      (word_of W.Application ∷ (between m n image ++ between (p + 1) m image)) (application b v)
      (λ j. word_of W.Application ∷ (y.words j ++ x.words j))
