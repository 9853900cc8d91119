-- Where a suspension stands among the evaluated parts of the path's last term, seen from the words.
use Rattle.std.proofs.Common.{◌≡◌, ℕ, suc, ◌+◌, List, [], ◌∷◌, ◌++◌, length, get_or, drop, Some, None, Option, refl, ap, ◌∙◌, append_assoc, arith, length-append}
use Rattle.std.specs.List.{AllByRecursion}
use Rattle.calculus.specs.Terms.{Term, application, yield, start, resume, snapshot, fix, operation, resumption, suspension, Value}
use Rattle.calculus.specs.Parts.{parts, size, sizes}
use Rattle.calculus.specs.Configurations.{Configuration}
use Rattle.calculus.specs.Frames.{Frame, application_left, application_right, yield_frame, start_left, start_right, resume_first, resume_second, resume_third, resume_fourth, snapshot_frame, fix_frame, operation_left, operation_right, plug, Proper}
use Rattle.calculus.specs.Places.{evaluated}
use Rattle.encoding.specs.Encoding.{encode, encodes, Fits}
use Rattle.encoding.proofs.Parts.{fits_parts, length_encode}
use Rattle.image.specs.Places.{At}
use Rattle.image.specs.Reading.{kind_at}
use Rattle.path.specs.Walking.{evaluated_of, pause_at}
use Rattle.path.proofs.KindFacts.{evaluated_read}
use Rattle.path.proofs.PausedWords.{pause_none}
use Rattle.path.proofs.PausedTerms.{pause_value, pause_suspension, pause_values, pause_never}
use Rattle.lines.specs.Frames.{before_hole}
use Rattle.lines.specs.Lines.{Hole}
use Rattle.lines.proofs.Sorts.{kind_of_term}
use Rattle.image.proofs.FitsKept.{fits_part}
use Rattle.lines.proofs.Fields.{first_here, kind_here}
use Rattle.steps.proofs.Locate.{Redex, pausing, capturing, applying, yielding, starting, resuming, copying, fixing, operating, ending, resting}
use Rattle.lines.proofs.Segments.{after}

-- the parts left of the hole of a frame, and how many evaluated ones are right of it
abbrev left_parts : Frame → List Term
left_parts (application_left a) = []
left_parts (application_right f) = f ∷ []
left_parts yield_frame = []
left_parts (start_left i a) = []
left_parts (start_right i f) = f ∷ []
left_parts (resume_first b c d) = []
left_parts (resume_second a c d) = a ∷ []
left_parts (resume_third a b d) = a ∷ b ∷ []
left_parts (resume_fourth a b c) = a ∷ b ∷ c ∷ []
left_parts snapshot_frame = []
left_parts fix_frame = []
left_parts (operation_left o b) = []
left_parts (operation_right o a) = a ∷ []

abbrev right_parts : Frame → List Term
right_parts (application_left a) = a ∷ []
right_parts (application_right f) = []
right_parts yield_frame = []
right_parts (start_left i a) = a ∷ []
right_parts (start_right i f) = []
right_parts (resume_first b c d) = b ∷ c ∷ d ∷ []
right_parts (resume_second a c d) = c ∷ d ∷ []
right_parts (resume_third a b d) = d ∷ []
right_parts (resume_fourth a b c) = []
right_parts snapshot_frame = []
right_parts fix_frame = []
right_parts (operation_left o b) = b ∷ []
right_parts (operation_right o a) = []

frame_evaluated : (F : Frame) (t : Term) → evaluated (plug F t) ≡ length (left_parts F) + suc (length (right_parts F))
frame_evaluated (application_left a) t = refl
frame_evaluated (application_right f) t = refl
frame_evaluated yield_frame t = refl
frame_evaluated (start_left i a) t = refl
frame_evaluated (start_right i f) t = refl
frame_evaluated (resume_first b c d) t = refl
frame_evaluated (resume_second a c d) t = refl
frame_evaluated (resume_third a b d) t = refl
frame_evaluated (resume_fourth a b c) t = refl
frame_evaluated snapshot_frame t = refl
frame_evaluated fix_frame t = refl
frame_evaluated (operation_left o b) t = refl
frame_evaluated (operation_right o a) t = refl

frame_parts : (F : Frame) (t : Term) → encodes (parts (plug F t)) ≡ encodes (left_parts F) ++ (encode t ++ encodes (right_parts F))
frame_parts (application_left a) t = refl
frame_parts (application_right f) t = simp append_assoc
frame_parts yield_frame t = refl
frame_parts (start_left i a) t = refl
frame_parts (start_right i f) t = simp append_assoc
frame_parts (resume_first b c d) t = refl
frame_parts (resume_second a c d) t = simp append_assoc
frame_parts (resume_third a b d) t = simp append_assoc
frame_parts (resume_fourth a b c) t = simp append_assoc
frame_parts snapshot_frame t = refl
frame_parts fix_frame t = refl
frame_parts (operation_left o b) t = refl
frame_parts (operation_right o a) t = simp append_assoc

frame_length : (F : Frame) → length (before_hole F) ≡ suc (sizes (left_parts F))
frame_length (application_left a) = refl
frame_length (application_right f) = omega (arith, length_encode f)
frame_length yield_frame = refl
frame_length (start_left i a) = refl
frame_length (start_right i f) = omega (arith, length_encode f)
frame_length (resume_first b c d) = refl
frame_length (resume_second a c d) = omega (arith, length_encode a)
frame_length (resume_third a b d) = omega (arith, length_encode a, length_encode b, length-append (encode a) (encode b))
frame_length (resume_fourth a b c) =
    omega (
      arith,
      length_encode a,
      length_encode b,
      length_encode c,
      length-append (encode a) (encode b ++ encode c),
      length-append (encode b) (encode c),
    )
frame_length snapshot_frame = refl
frame_length fix_frame = refl
frame_length (operation_left o b) = refl
frame_length (operation_right o a) = omega (arith, length_encode a)

frame_fits : (F : Frame) (t : Term) → Fits (plug F t) → AllByRecursion Fits (left_parts F)
frame_fits (application_left a) t h = tt
frame_fits (application_right f) t h = (h.1, tt)
frame_fits yield_frame t h = tt
frame_fits (start_left i a) t h = tt
frame_fits (start_right i f) t h = (h.1, tt)
frame_fits (resume_first b c d) t h = tt
frame_fits (resume_second a c d) t h = (h.1, tt)
frame_fits (resume_third a b d) t h = (h.1, (h.2, tt))
frame_fits (resume_fourth a b c) t h = (h.1, (h.2, (h.3, tt)))
frame_fits snapshot_frame t h = tt
frame_fits fix_frame t h = tt
frame_fits (operation_left o b) t h = tt
frame_fits (operation_right o a) t h = (h.1, tt)

frame_values : (F : Frame) → Proper F → AllByRecursion Value (left_parts F)
frame_values (application_left a) p = tt
frame_values (application_right f) p = (p, tt)
frame_values yield_frame p = tt
frame_values (start_left i a) p = tt
frame_values (start_right i f) p = (p, tt)
frame_values (resume_first b c d) p = tt
frame_values (resume_second a c d) p = (p, tt)
frame_values (resume_third a b d) p = (p.0, (p.1, tt))
frame_values (resume_fourth a b c) p = (p.0, (p.1, (p.2, tt)))
frame_values snapshot_frame p = tt
frame_values fix_frame p = tt
frame_values (operation_left o b) p = tt
frame_values (operation_right o a) p = (p, tt)

module _ (image : List ℕ) (c : Configuration) (p : ℕ) (K : Term → Term) where
  -- the term in the hole stands at p
  own : (u : Term) (h : Hole image c p u K) → At u (after image c h.behind) p image
  own u h = record { fits = h.right.0; words = h.here }

  pub own_kind : (u : Term) (h : Hole image c p u K) → kind_at (get_or image p 0) ≡ kind_of_term u
  own_kind u h = kind_here u _ p image (own u h)

  pub own_evaluated : (u : Term) (h : Hole image c p u K) → evaluated_of (get_or image p 0) ≡ evaluated u
  own_evaluated u h = ap evaluated_of (first_here u _ p image (own u h)).0 ∙ evaluated_read u (fits_parts u h.right.0).0

  -- the place of the suspended part of the term at p, as its words say
  abbrev pub paused_part : Option ℕ
  paused_part = pause_at (p + 1) (evaluated_of (get_or image p 0)) 0 (drop (p + 1) image)

  by_parts : (u : Term) (h : Hole image c p u K) → paused_part ≡ pause_at (p + 1) (evaluated u) 0 (encodes (parts u) ++ after image c h.behind)
  by_parts u h = λ j. pause_at (p + 1) (own_evaluated u h j) 0 ((first_here u _ p image (own u h)).1 j)

  frame_paused : (F : Frame) (t v : Term) → Proper F → (h : Hole image c p (plug F (suspension t v)) K) → paused_part ≡ Some (p + length (before_hole F))
  frame_paused F t v pr h =
      let s : Term = suspension t v in
      let rest : List ℕ = encodes (right_parts F) ++ after image c h.behind in
      let ws : encodes (parts (plug F s)) ++ after image c h.behind ≡ encodes (left_parts F) ++ (encode s ++ rest) =
      ap (λ l. l ++ after image c h.behind) (frame_parts F s) ∙ append_assoc (encodes (left_parts F)) (encode s ++ encodes (right_parts F)) _
      ∙ ap (λ l. encodes (left_parts F) ++ l) (append_assoc (encode s) (encodes (right_parts F)) _) in
      by_parts (plug F s) h ∙ (λ j. pause_at (p + 1) (frame_evaluated F s j) 0 (ws j))
      ∙ pause_values (left_parts F) (frame_fits F s h.right.0) (frame_values F pr) (suc (length (right_parts F))) (p + 1) (encode s ++ rest)
      ∙ pause_suspension s (fits_part F s h.right.0) (length (right_parts F)) (p + 1 + sizes (left_parts F)) rest refl refl
      ∙ ap Some (omega (arith, frame_length F))

  -- the place of the suspension that moves out, if there is one
  abbrev suspended : {u : Term} → Redex u → Option ℕ
  suspended (pausing F t v pr) = Some (p + length (before_hole F))
  suspended (capturing l t v b d e) = Some (p + 1)
  suspended (applying f a x y) = None
  suspended (yielding a x) = None
  suspended (starting i f a x y) = None
  suspended (resuming a b d e x y z w) = None
  suspended (copying a x) = None
  suspended (fixing a x) = None
  suspended (operating o a b x y) = None
  suspended (ending l a b d e x) = None
  suspended (resting u e n) = None

  pub pause_law : (u : Term) (r : Redex u) (h : Hole image c p u K) → paused_part ≡ suspended r
  pause_law _ (pausing F t v pr) h = frame_paused F t v pr h
  pause_law _ (capturing l t v b d e) h =
      by_parts (resumption l (suspension t v) b d e) h
      ∙ ap (pause_at (p + 1) 1 0) (append_assoc (encode (suspension t v)) (encodes (b ∷ d ∷ e ∷ [])) (after image c h.behind))
      ∙ pause_suspension (suspension t v) h.right.0.1 0 (p + 1) (encodes (b ∷ d ∷ e ∷ []) ++ after image c h.behind) refl refl
  pause_law _ (applying f a x y) h =
      by_parts (application f a) h ∙ pause_never (f ∷ a ∷ []) (h.right.0.1, (h.right.0.2, tt)) (x, (y, tt)) (p + 1) 2 _ refl
  pause_law _ (yielding a x) h = by_parts (yield a) h ∙ pause_never (a ∷ []) (h.right.0.1, tt) (x, tt) (p + 1) 1 _ refl
  pause_law _ (starting i f a x y) h =
      by_parts (start i f a) h ∙ pause_never (f ∷ a ∷ []) (h.right.0.1, (h.right.0.2, tt)) (x, (y, tt)) (p + 1) 2 _ refl
  pause_law _ (resuming a b d e x y z w) h =
      by_parts (resume a b d e) h
      ∙ pause_never (a ∷ b ∷ d ∷ e ∷ []) (h.right.0.1, (h.right.0.2, (h.right.0.3, (h.right.0.4, tt)))) (x, (y, (z, (w, tt)))) (p + 1) 4 _ refl
  pause_law _ (copying a x) h = by_parts (snapshot a) h ∙ pause_never (a ∷ []) (h.right.0.1, tt) (x, tt) (p + 1) 1 _ refl
  pause_law _ (fixing a x) h = by_parts (fix a) h ∙ pause_never (a ∷ []) (h.right.0.1, tt) (x, tt) (p + 1) 1 _ refl
  pause_law _ (operating o a b x y) h =
      by_parts (operation o a b) h ∙ pause_never (a ∷ b ∷ []) (h.right.0.1, (h.right.0.2, tt)) (x, (y, tt)) (p + 1) 2 _ refl
  pause_law _ (ending l a b d e x) h =
      by_parts (resumption l a b d e) h ∙ ap (pause_at (p + 1) 1 0) (append_assoc (encode a) (encodes (b ∷ d ∷ e ∷ [])) _)
      ∙ pause_value a h.right.0.1 0 (p + 1) _ x ∙ pause_none (p + 1 + size a) 0 _ (omega arith)
  pause_law _ (resting u e n) h =
      ap (λ k. pause_at (p + 1) k 0 (drop (p + 1) image)) (own_evaluated u h ∙ e) ∙ pause_none (p + 1) 0 (drop (p + 1) image) (omega arith)

  -- the same by the words that were read
  pub paused_read : (w n : ℕ) (o : Option ℕ) → w ≡ get_or image p 0 → n ≡ evaluated_of w → o ≡ pause_at (p + 1) n 0 (drop (p + 1) image) → o ≡ paused_part
  paused_read w n o ew en eo = eo ∙ ap (λ j. pause_at (p + 1) j 0 (drop (p + 1) image)) (en ∙ ap evaluated_of ew)
