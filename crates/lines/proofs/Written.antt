-- What the lines write that leave the bindings as they are: a yield, a pause, an application and a fix.
use Rattle.std.proofs.Common.{◌≡◌, ℕ, suc, ◌+◌, List, ◌∷◌, ◌++◌, length, get_or, drop, sym, ap, ◌∙◌, append_assoc, arith, length-append}
use Rattle.std.specs.List.{between}
use Rattle.calculus.specs.Terms.{Term, unit, application, yield, fix, suspension}
use Rattle.calculus.specs.Parts.{size}
use Rattle.calculus.specs.Replacement.{replace}
use Rattle.calculus.specs.Configurations.{Configuration, ◌∣◌}
use Rattle.calculus.specs.Frames.{Frame, plug}
use Rattle.layout.specs.declared.Word.TheVariants as W
use Rattle.layout.specs.Layout.{word_of}
use Rattle.encoding.specs.Encoding.{encode}
use Rattle.encoding.proofs.Parts.{length_encode}
use Rattle.image.specs.Images.{words_of, used}
use Rattle.image.specs.Places.{At, Passed}
use Rattle.image.specs.Reading.{kind_at, label_at}
use Rattle.writing.specs.Replacing.{replaced}
use Rattle.writing.proofs.Building.{cut, next_word}
use Rattle.lines.specs.Frames.{before_hole, behind_hole}
use Rattle.lines.specs.Lines.{Hole}
use Rattle.lines.proofs.Sorts.{kind_of_term}
use Rattle.lines.proofs.Around.{frame_words, frame_right}
use Rattle.lines.proofs.Fields.{first_here, kind_here}
use Rattle.lines.proofs.Binders.{Binder, new_body}
use Rattle.lines.proofs.Segments.{after, same_bindings}

-- `past` answers e at place i
abbrev pub Past : List ℕ → ℕ → ℕ → Type 0
Past ws i e = (t : Term) (rest : List ℕ) → At t rest i ws → Passed t rest i e ws

-- a yield
module _
    (image : List ℕ) (c : Configuration) (K : Term → Term) (p stop us : ℕ) (v : Term) (h : Hole image c p (yield v) K) (q : us ≡ used c)
    (m : Past image (p + 1) stop) where
  pub yield_words : between 1 p image ++ (word_of W.Suspension ∷ (word_of W.Unit ∷ (between (p + 1) stop image ++ between stop us image)))
      ≡ words_of (K (suspension unit v) ∣ c.bindings)
  yield_words =
      let d = m v (after image c h.behind) (record { fits = h.right.0.1; words = (next_word image p _ _ h.here).1 }) in
      same_bindings image c p (yield v) K h stop us (omega (arith, d.ends)) q d.behind
      (word_of W.Suspension ∷ (word_of W.Unit ∷ between (p + 1) stop image)) (suspension unit v)
      (ap (λ l. word_of W.Suspension ∷ (word_of W.Unit ∷ l)) d.words)

-- a suspension moves out of a frame
module _
    (image : List ℕ) (c : Configuration) (K : Term → Term) (p q stop m n us : ℕ) (F : Frame) (t v : Term)
    (h : Hole image c p (plug F (suspension t v)) K) (e : us ≡ used c) (g : q ≡ p + length (before_hole F))
    (ps : Past image p stop) (pm : Past image (q + 1) m) (pn : Past image m n) where
  abbrev rest : List ℕ
  rest = after image c h.behind

  laid_out : drop p image ≡ before_hole F ++ (word_of W.Suspension ∷ (encode t ++ (encode v ++ (behind_hole F ++ rest))))
  laid_out = h.here ∙ ap (λ l. l ++ rest) (frame_words F (suspension t v)) ∙ simp append_assoc

  long : size (plug F (suspension t v)) ≡ length (before_hole F) + (suc (size t + size v) + length (behind_hole F))
  long =
      sym (length_encode (plug F (suspension t v))) ∙ ap length (frame_words F (suspension t v))
      ∙ omega (
        arith,
        length-append (before_hole F) (encode (suspension t v) ++ behind_hole F),
        length-append (encode (suspension t v)) (behind_hole F),
        length-append (encode t) (encode v),
        length_encode t,
        length_encode v,
      )

  pub pause_words : between 1 p image ++ (word_of W.Suspension ∷ (between p q image ++ (between (q + 1) m image ++ (between n stop image
      ++ (between m n image ++ between stop us image)))))
      ≡ words_of (K (suspension (plug F t) v) ∣ c.bindings)
  pause_words =
      let f = (frame_right (length c.bindings) F (suspension t v) h.right).0 in
      let w = ps (plug F (suspension t v)) rest (record { fits = h.right.0; words = h.here }) in
      let b = cut image (before_hole F) _ p q g laid_out in
      let x = pm t (encode v ++ (behind_hole F ++ rest)) (record { fits = f.1; words = (next_word image q _ _ b.1).1 }) in
      let y = pn v (behind_hole F ++ rest) (record { fits = f.2; words = x.behind }) in
      let z = (cut image (behind_hole F) rest n stop (omega (arith, w.ends, x.ends, y.ends, g, long)) y.behind).0 in
      let new : word_of W.Suspension ∷ (between p q image ++ (between (q + 1) m image ++ (between n stop image ++ between m n image)))
      ≡ encode (suspension (plug F t) v) =
      (λ i. word_of W.Suspension ∷ (b.0 i ++ (x.words i ++ (z i ++ y.words i))))
      ∙ sym (ap (λ k. word_of W.Suspension ∷ (k ++ encode v)) (frame_words F t) ∙ simp append_assoc) in
      sym (ap (λ k. between 1 p image ++ (word_of W.Suspension ∷ k)) (simp append_assoc))
      ∙ same_bindings image c p (plug F (suspension t v)) K h stop us w.ends e w.behind _ (suspension (plug F t) v) new

-- an application
module _
    (image : List ℕ) (c : Configuration) (K : Term → Term) (p us : ℕ) (f v : Term) (h : Hole image c p (application f v) K)
    (q : us ≡ used c) where
  applied_at : At f (encode v ++ after image c h.behind) (p + 1) image
  applied_at = record {
    fits = h.right.0.1;
    words = (next_word image p _ _ h.here).1 ∙ append_assoc (encode f) (encode v) (after image c h.behind);
  }

  pub applied_kind : kind_at (get_or image (p + 1) 0) ≡ kind_of_term f
  applied_kind = kind_here f _ (p + 1) image applied_at

  pub apply_words : (k : Binder f) (y mid stop : ℕ) → y ≡ label_at (get_or image (p + 1) 0) → Past image (p + 2) mid → Past image mid stop →
      between 1 p image ++ (replaced y (between mid stop image) 0 (between (p + 2) mid image) ++ between stop us image)
      ≡ words_of (K (replace k.x v k.b) ∣ c.bindings)
  apply_words k y mid stop n pm ps =
      let two : p + 1 + 1 ≡ p + 2 = omega arith in
      let vs : List ℕ = encode v ++ after image c h.behind in
      let d = sym (ap (λ j. drop j image) two) ∙ (next_word image (p + 1) _ _ (applied_at.words ∙ ap (λ l. l ++ vs) k.words)).1 in
      let a = pm k.b vs (record { fits = k.fits h.right.0.1; words = d }) in
      let w = ps v (after image c h.behind) (record { fits = h.right.0.2; words = a.behind }) in
      let name : y ≡ k.x = n ∙ ap label_at (first_here f _ (p + 1) image applied_at).0 ∙ k.name h.right.0.1 in
      same_bindings image c p (application f v) K h stop us (omega (arith, a.ends, w.ends, k.long)) q w.behind _
      (replace k.x v k.b) (new_body k.x v k.b y _ _ name w.words a.words (k.fits h.right.0.1))

-- a fix
module _
    (image : List ℕ) (c : Configuration) (K : Term → Term) (p us : ℕ) (f : Term) (h : Hole image c p (fix f) K) (q : us ≡ used c) where
  fixed_at : At f (after image c h.behind) (p + 1) image
  fixed_at = record { fits = h.right.0.1; words = (next_word image p _ _ h.here).1 }

  pub fixed_kind : kind_at (get_or image (p + 1) 0) ≡ kind_of_term f
  fixed_kind = kind_here f _ (p + 1) image fixed_at

  pub fix_words : (k : Binder f) (y stop : ℕ) → y ≡ label_at (get_or image (p + 1) 0) → Past image (p + 2) stop →
      between 1 p image ++ (replaced y (between p stop image) 0 (between (p + 2) stop image) ++ between stop us image)
      ≡ words_of (K (replace k.x (fix f) k.b) ∣ c.bindings)
  fix_words k y stop n ps =
      let two : p + 1 + 1 ≡ p + 2 = omega arith in
      let vs : List ℕ = after image c h.behind in
      let d = sym (ap (λ j. drop j image) two) ∙ (next_word image (p + 1) _ _ (fixed_at.words ∙ ap (λ l. l ++ vs) k.words)).1 in
      let w = ps k.b vs (record { fits = k.fits h.right.0.1; words = d }) in
      let s : stop ≡ p + size (fix f) = omega (arith, w.ends, k.long) in
      let e : stop ≡ p + length (encode (fix f)) = omega (arith, s, length_encode (fix f)) in
      let name : y ≡ k.x = n ∙ ap label_at (first_here f _ (p + 1) image fixed_at).0 ∙ k.name h.right.0.1 in
      same_bindings image c p (fix f) K h stop us s q w.behind _ (replace k.x (fix f) k.b)
      (new_body k.x (fix f) k.b y _ _ name (cut image (encode (fix f)) _ p stop e h.here).0 w.words (k.fits h.right.0.1))
