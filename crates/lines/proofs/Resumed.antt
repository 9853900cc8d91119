-- What a resume writes: a resumption with the body of a ready binding, or the application of the fourth part to unit.
use Rattle.std.proofs.Common.{◌≡◌, ℕ, ◌+◌, ◌<◌, false, List, [], ◌∷◌, ◌++◌, length, get_or, drop, sym, ap, ◌∙◌, append_assoc, arith, length-append}
use Rattle.std.specs.List.{between}
use Rattle.calculus.specs.Lists.{put}
use Rattle.calculus.specs.Terms.{Term, unit, application, resume, instance, resumption}
use Rattle.calculus.specs.Parts.{size}
use Rattle.calculus.specs.Configurations.{empty, ready, Configuration, ◌∣◌}
use Rattle.layout.specs.declared.Word.TheVariants as W
use Rattle.layout.specs.Layout.{word_of}
use Rattle.encoding.specs.Encoding.{encode}
use Rattle.encoding.proofs.Parts.{length_encode}
use Rattle.image.specs.Images.{words_of, used}
use Rattle.image.specs.Places.{Passed, Bound}
use Rattle.image.specs.Reading.{kind_at, label_at, row_at}
use Rattle.writing.proofs.Building.{cut, next_word}
use Rattle.lines.specs.Lines.{Hole}
use Rattle.lines.proofs.Sorts.{kind_of_term}
use Rattle.lines.proofs.Fields.{kind_here, instance_label}
use Rattle.lines.proofs.Segments.{after, same_bindings, other_binding}
use Rattle.lines.proofs.Written.{Past}
use Rattle.lines.proofs.Instances.{row_here}

module _ (image : List ℕ) (c : Configuration) (K : Term → Term) (p us : ℕ) (f b d e : Term) (h : Hole image c p (resume f b d e) K) where
  pub resumed_kind : kind_at (get_or image (p + 1) 0) ≡ kind_of_term f
  resumed_kind =
      kind_here f (encode b ++ (encode d ++ (encode e ++ after image c h.behind))) (p + 1) image
      (record { fits = h.right.0.1; words = (next_word image p _ _ h.here).1 ∙ simp append_assoc })

module _
    (image : List ℕ) (c : Configuration) (K : Term → Term) (p us l r : ℕ) (b d e : Term)
    (h : Hole image c p (resume (instance l r) b d e) K) (g : us ≡ used c) where
  abbrev rest : List ℕ
  rest = after image c h.behind

  resumed_own :
      (get_or image (p + 1) 0 ≡ word_of (W.Instance l r)) × (drop (p + 1 + 1) image ≡ (encode b ++ (encode d ++ encode e)) ++ rest)
  resumed_own = next_word image (p + 1) _ _ (next_word image p _ _ h.here).1

  pub resumed_label : label_at (get_or image (p + 1) 0) ≡ l
  resumed_label = ap label_at resumed_own.0 ∙ instance_label l r h.right.0.1

  pub resumed_below : l < length c.bindings
  resumed_below = h.right.1.0

  handlers : drop (p + 2) image ≡ encode b ++ (encode d ++ (encode e ++ rest))
  handlers = let two : p + 2 ≡ p + 1 + 1 = omega arith in ap (λ j. drop j image) two ∙ resumed_own.1 ∙ simp append_assoc

  module _ (m n stop : ℕ) (pm : Past image (p + 2) m) (pn : Past image m n) (ps : Past image n stop) where
    first : Passed b (encode d ++ (encode e ++ rest)) (p + 2) m image
    first = pm b _ (record { fits = h.right.0.2; words = handlers })

    second : Passed d (encode e ++ rest) m n image
    second = pn d _ (record { fits = h.right.0.3; words = first.behind })

    third : Passed e rest n stop image
    third = ps e _ (record { fits = h.right.0.4; words = second.behind })

    stop_is : stop ≡ p + size (resume (instance l r) b d e)
    stop_is = omega (arith, first.ends, second.ends, third.ends)

    -- the binding is empty
    pub neither_words : between 1 p image ++ (word_of W.Application ∷ (between n stop image ++ (word_of W.Unit ∷ between stop us image)))
        ≡ words_of (K (application e unit) ∣ c.bindings)
    neither_words =
        sym (ap (λ k. between 1 p image ++ (word_of W.Application ∷ k))
        (append_assoc (between n stop image) (word_of W.Unit ∷ []) (between stop us image)))
        ∙ same_bindings image c p (resume (instance l r) b d e) K h stop us stop_is g third.behind
        (word_of W.Application ∷ (between n stop image ++ (word_of W.Unit ∷ []))) (application e unit)
        (ap (λ k. word_of W.Application ∷ (k ++ (word_of W.Unit ∷ []))) third.words)

    -- the binding is ready
    pub resume_words : (i : ℕ) (t : Term) (q : ℕ) (v : Bound image c l (ready i t) q) (z y s : ℕ) → y ≡ label_at (get_or image (p + 1) 0) →
        s ≡ row_at (get_or image q 0) → Past image (q + 1) z →
        between 1 p image ++ (word_of (W.Resumption y) ∷ (between (q + 1) z image ++ (between (p + 2) stop image
        ++ (between stop q image ++ (word_of (W.Binding false s) ∷ between z us image)))))
        ≡ words_of (K (resumption l t b d e) ∣ put c.bindings l (empty i))
    resume_words i t q v z y s ey es pz =
        let w = pz t _ (record { fits = v.right.0.1; words = (next_word image q _ _ v.here).1 }) in
        let long : length (encode b ++ (encode d ++ encode e)) ≡ size b + (size d + size e) =
        omega (
          arith,
          length-append (encode b) (encode d ++ encode e),
          length-append (encode d) (encode e),
          length_encode b,
          length_encode d,
          length_encode e,
        ) in
        let x = (cut image (encode b ++ (encode d ++ encode e)) rest (p + 2) stop
        (omega (arith, first.ends, second.ends, third.ends, long)) (handlers ∙ sym (simp append_assoc))).0 in
        let ny : y ≡ l = ey ∙ resumed_label in
        let ns : s ≡ i = es ∙ row_here image c l (ready i t) q v in
        sym (ap (λ k. between 1 p image ++ (word_of (W.Resumption y) ∷ k))
        (append_assoc (between (q + 1) z image) (between (p + 2) stop image) _))
        ∙ other_binding image c p (resume (instance l r) b d e) K h l (ready i t) q v stop us z stop_is g
        (omega (arith, w.ends, length_encode t)) third.behind
        (word_of (W.Resumption y) ∷ (between (q + 1) z image ++ between (p + 2) stop image)) (word_of (W.Binding false s) ∷ [])
        (resumption l t b d e) (empty i) (λ j. word_of (W.Resumption (ny j)) ∷ (w.words j ++ x j))
        (λ j. word_of (W.Binding false (ns j)) ∷ [])
