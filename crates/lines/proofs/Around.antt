-- A frame around a term: its words, its fields, the path through it, and the step.
use Rattle.std.proofs.Common.{◌≡◌, ℕ, ◌+◌, false, ◌++◌, length, refl, append_assoc, append-nil, arith, length-append}
use Rattle.quantities.specs.Meaning.{Meaning}
use Rattle.calculus.specs.Terms.{Term, suspension, is_value, is_suspension}
use Rattle.calculus.specs.Occurrences.{word_at}
use Rattle.calculus.specs.Configurations.{Bindings, Formed}
use Rattle.calculus.specs.Frames.{Frame, application_left, application_right, yield_frame, start_left, start_right, resume_first, resume_second, resume_third, resume_fourth, snapshot_frame, fix_frame, operation_left, operation_right, plug, Proper}
use Rattle.calculus.specs.Places.{path}
use Rattle.calculus.specs.Views.{view}
use Rattle.calculus.specs.Next.{moves, next}
use Rattle.encoding.specs.Encoding.{encode}
use Rattle.encoding.proofs.Parts.{length_encode}
use Rattle.image.specs.Places.{Right}
use Rattle.lines.specs.Frames.{before_hole, behind_hole}
use Rattle.image.proofs.FitsKept.{fits_part}

pub frame_words : (F : Frame) (x : Term) → encode (plug F x) ≡ before_hole F ++ (encode x ++ behind_hole F)
frame_words (application_left a) x = refl
frame_words (application_right f) x = simp append-nil
frame_words yield_frame x = simp append-nil
frame_words (start_left i a) x = refl
frame_words (start_right i f) x = simp append-nil
frame_words (resume_first b c d) x = refl
frame_words (resume_second a c d) x = refl
frame_words (resume_third a b d) x = simp append_assoc
frame_words (resume_fourth a b c) x = simp (append_assoc, append-nil)
frame_words snapshot_frame x = simp append-nil
frame_words fix_frame x = simp append-nil
frame_words (operation_left o b) x = refl
frame_words (operation_right o a) x = simp append-nil

formed_part : (n : ℕ) (F : Frame) (t : Term) → Formed n (plug F t) → Formed n t
formed_part n (application_left a) t f = f.0
formed_part n (application_right g) t f = f.1
formed_part n yield_frame t f = f
formed_part n (start_left i a) t f = f.0
formed_part n (start_right i g) t f = f.1
formed_part n (resume_first b c d) t f = f.0
formed_part n (resume_second a c d) t f = f.1
formed_part n (resume_third a b d) t f = f.2
formed_part n (resume_fourth a b c) t f = f.3
formed_part n snapshot_frame t f = f
formed_part n fix_frame t f = f
formed_part n (operation_left o b) t f = f.0
formed_part n (operation_right o a) t f = f.1

pub frame_right : (n : ℕ) (F : Frame) (t : Term) → Right n (plug F t) → Right n t
frame_right n F t h = (fits_part F t h.0, formed_part n F t h.1)

-- the path goes through a frame to a part that is no value and no suspension
pub frame_path : (F : Frame) (t : Term) → Proper F → is_value t ≡ false → is_suspension t ≡ false →
    word_at (plug F t) (path (plug F t)) ≡ length (before_hole F) + word_at t (path t)
frame_path (application_left a) t p e s = rw (e, s) (omega arith)
frame_path (application_right f) t p e s = rw (p, e, s) (omega (arith, length_encode f))
frame_path yield_frame t p e s = rw (e, s) (omega arith)
frame_path (start_left i a) t p e s = rw (e, s) (omega arith)
frame_path (start_right i f) t p e s = rw (p, e, s) (omega (arith, length_encode f))
frame_path (resume_first b c d) t p e s = rw (e, s) (omega arith)
frame_path (resume_second a c d) t p e s = rw (p, e, s) (omega (arith, length_encode a))
frame_path (resume_third a b d) t p e s =
    rw (p.0, p.1, e, s) (omega (arith, length_encode a, length_encode b, length-append (encode a) (encode b)))
frame_path (resume_fourth a b c) t p e s =
    rw (p.0, p.1, p.2, e, s)
    (omega (
      arith,
      length_encode a,
      length_encode b,
      length_encode c,
      length-append (encode a) (encode b ++ encode c),
      length-append (encode b) (encode c),
    ))
frame_path snapshot_frame t p e s = rw (e, s) (omega arith)
frame_path fix_frame t p e s = rw (e, s) (omega arith)
frame_path (operation_left o b) t p e s = rw (e, s) (omega arith)
frame_path (operation_right o a) t p e s = rw (p, e, s) (omega (arith, length_encode a))

-- it ends before a suspension
pub frame_pause : (F : Frame) (t v : Term) → Proper F → word_at (plug F (suspension t v)) (path (plug F (suspension t v))) ≡ 0
frame_pause (application_left a) t v p = refl
frame_pause (application_right f) t v p = rw p
frame_pause yield_frame t v p = refl
frame_pause (start_left i a) t v p = refl
frame_pause (start_right i f) t v p = rw p
frame_pause (resume_first b c d) t v p = refl
frame_pause (resume_second a c d) t v p = rw p
frame_pause (resume_third a b d) t v p = rw (p.0, p.1)
frame_pause (resume_fourth a b c) t v p = rw (p.0, p.1, p.2)
frame_pause snapshot_frame t v p = refl
frame_pause fix_frame t v p = refl
frame_pause (operation_left o b) t v p = refl
frame_pause (operation_right o a) t v p = rw p

-- the step of a frame with a term that is no value
module _ (Q : Meaning) where
  pub next_plug : (F : Frame) (t : Term) (μ : Bindings) → Proper F → is_value t ≡ false →
      next Q (plug F t) μ ≡ moves F (view t) μ (next Q t μ)
  unfolding next
  next_plug (application_left a) t μ p e = rw e
  next_plug (application_right f) t μ p e = rw (p, e)
  next_plug yield_frame t μ p e = rw e
  next_plug (start_left i a) t μ p e = rw e
  next_plug (start_right i f) t μ p e = rw (p, e)
  next_plug (resume_first b c d) t μ p e = rw e
  next_plug (resume_second a c d) t μ p e = rw (p, e)
  next_plug (resume_third a b d) t μ p e = rw (p.0, p.1, e)
  next_plug (resume_fourth a b c) t μ p e = rw (p.0, p.1, p.2, e)
  next_plug snapshot_frame t μ p e = rw e
  next_plug fix_frame t μ p e = rw e
  next_plug (operation_left o b) t μ p e = rw e
  next_plug (operation_right o a) t μ p e = rw (p, e)
