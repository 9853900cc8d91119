-- Which line applies at the path's last term, by the kind of its word and by its suspended part.
use Rattle.std.proofs.Common.{◌≡◌, ℕ, suc, ◌+◌, ◌-◌, List, ◌++◌, length, get_or, replicate, Some, None, sym, refl, ap, ◌∙◌, append_assoc, arith, length-append}
use Rattle.quantities.specs.Meaning.{Meaning}
use Rattle.calculus.specs.Terms.{Term, application, yield, start, resume, snapshot, fix, operation, resumption, suspension, Value}
use Rattle.calculus.specs.Configurations.{Bindings, Configuration}
use Rattle.calculus.specs.Frames.{Frame, application_left, application_right, yield_frame, start_left, start_right, resume_first, resume_second, resume_third, resume_fourth, snapshot_frame, fix_frame, operation_left, operation_right, plug, Proper}
use Rattle.calculus.specs.Places.{place}
use Rattle.calculus.specs.Next.{next}
use Rattle.encoding.specs.Encoding.{encode}
use Rattle.encoding.proofs.Parts.{length_encode}
use Rattle.image.specs.Images.{bindings_words, used, Image}
use Rattle.image.specs.Reading.{kind_at}
use Rattle.image.proofs.Whole.{laid, encodable_term}
use Rattle.path.specs.Walking.{evaluated_counts, evaluated_of}
use Rattle.writing.proofs.Building.{cut}
use Rattle.lines.specs.Frames.{before_hole}
use Rattle.lines.specs.Lines.{Hole}
use Rattle.lines.proofs.Sorts.{kind_of_term}
use Rattle.steps.proofs.Locate.{Redex, pausing, capturing, applying, yielding, starting, resuming, copying, fixing, operating, ending, resting, Located}
use Rattle.steps.proofs.Paused.{own_kind, own_evaluated, paused_part, pause_law}

-- the surroundings of the path's last term
pub hole : (Q : Meaning) (image : List ℕ) (c : Configuration) (p : ℕ) (L : Located Q c.term) → Image image c → p ≡ place c.term →
    Hole image c p L.u L.K
hole Q image c p L m e =
    let zs : List ℕ = replicate (length image - used c) 0 in
    let w : encode c.term ≡ L.before ++ (encode L.u ++ L.behind) = sym (ap encode L.whole) ∙ L.words L.u in
    let at_p : p ≡ 1 + length L.before = e ∙ omega (arith, L.place) in
    let x = cut image L.before (encode L.u ++ (L.behind ++ (bindings_words c.bindings ++ zs))) 1 p at_p
    ((laid image c m).rest ∙ ap (λ l. l ++ (bindings_words c.bindings ++ zs)) w ∙ simp append_assoc) in
    record {
      is = m;
      before = L.before;
      behind = L.behind;
      right = L.right (length c.bindings) (encodable_term c m.encodable);
      words = L.words;
      front = x.0;
      here = x.1;
      fill =
          omega (
            arith,
            at_p,
            ap length w,
            length_encode L.u,
            length-append (encode c.term) (bindings_words c.bindings),
            length-append L.before (encode L.u ++ L.behind),
            length-append (encode L.u) L.behind,
          );
    }

pub none_some : {A B : Type 0} {q : B} → None ≡ Some q → A
none_some e = cc

pub some_some : {B : Type 0} {q r : B} → Some q ≡ Some r → q ≡ r
some_some e = cc

frame_kind : (F : Frame) (s : Term) → kind_of_term (plug F s) ≡ 13 → ⊥
frame_kind (application_left a) s e = omega arith
frame_kind (application_right f) s e = omega arith
frame_kind yield_frame s e = omega arith
frame_kind (start_left i a) s e = omega arith
frame_kind (start_right i f) s e = omega arith
frame_kind (resume_first b c d) s e = omega arith
frame_kind (resume_second a c d) s e = omega arith
frame_kind (resume_third a b d) s e = omega arith
frame_kind (resume_fourth a b c) s e = omega arith
frame_kind snapshot_frame s e = omega arith
frame_kind fix_frame s e = omega arith
frame_kind (operation_left o b) s e = omega arith
frame_kind (operation_right o a) s e = omega arith

-- a term that rests has no evaluated part
rests_not : {A : Type 0} (w k n : ℕ) → evaluated_of w ≡ 0 → kind_at w ≡ k → get_or evaluated_counts k 0 ≡ suc n → A
rests_not w k n e f g = let z : 0 ≡ suc n = sym e ∙ ap (λ j. get_or evaluated_counts j 0) f ∙ g in absurd (omega arith)

module _ (image : List ℕ) (c : Configuration) (p : ℕ) (K : Term → Term) where
  pub exit_applying : (G : Term → Type 0) (u : Term) → Redex u → Hole image c p u K → kind_at (get_or image p 0) ≡ 4 → None ≡ paused_part image c p K →
      ((f a : Term) → Value f → Value a → Hole image c p (application f a) K → G (application f a)) → G u
  exit_applying G _ (pausing F t v pr) h k o g = none_some (o ∙ pause_law image c p K _ (pausing F t v pr) h)
  exit_applying G _ (capturing l t v b d e) h k o g = none_some (o ∙ pause_law image c p K _ (capturing l t v b d e) h)
  exit_applying G _ (applying f a x y) h k o g = g f a x y h
  exit_applying G _ (yielding a x) h k o g = absurd (omega (arith, own_kind image c p K _ h, k))
  exit_applying G _ (starting i f a x y) h k o g = absurd (omega (arith, own_kind image c p K _ h, k))
  exit_applying G _ (resuming a b d e x y z w) h k o g = absurd (omega (arith, own_kind image c p K _ h, k))
  exit_applying G _ (copying a x) h k o g = absurd (omega (arith, own_kind image c p K _ h, k))
  exit_applying G _ (fixing a x) h k o g = absurd (omega (arith, own_kind image c p K _ h, k))
  exit_applying G _ (operating n a b x y) h k o g = absurd (omega (arith, own_kind image c p K _ h, k))
  exit_applying G _ (ending l a b d e x) h k o g = absurd (omega (arith, own_kind image c p K _ h, k))
  exit_applying G _ (resting u e n) h k o g = rests_not (get_or image p 0) 4 1 (own_evaluated image c p K u h ∙ e) k refl

  pub exit_yielding : (G : Term → Type 0) (u : Term) → Redex u → Hole image c p u K → kind_at (get_or image p 0) ≡ 5 → None ≡ paused_part image c p K →
      ((a : Term) → Value a → Hole image c p (yield a) K → G (yield a)) → G u
  exit_yielding G _ (pausing F t v pr) h k o g = none_some (o ∙ pause_law image c p K _ (pausing F t v pr) h)
  exit_yielding G _ (capturing l t v b d e) h k o g = none_some (o ∙ pause_law image c p K _ (capturing l t v b d e) h)
  exit_yielding G _ (applying f a x y) h k o g = absurd (omega (arith, own_kind image c p K _ h, k))
  exit_yielding G _ (yielding a x) h k o g = g a x h
  exit_yielding G _ (starting i f a x y) h k o g = absurd (omega (arith, own_kind image c p K _ h, k))
  exit_yielding G _ (resuming a b d e x y z w) h k o g = absurd (omega (arith, own_kind image c p K _ h, k))
  exit_yielding G _ (copying a x) h k o g = absurd (omega (arith, own_kind image c p K _ h, k))
  exit_yielding G _ (fixing a x) h k o g = absurd (omega (arith, own_kind image c p K _ h, k))
  exit_yielding G _ (operating n a b x y) h k o g = absurd (omega (arith, own_kind image c p K _ h, k))
  exit_yielding G _ (ending l a b d e x) h k o g = absurd (omega (arith, own_kind image c p K _ h, k))
  exit_yielding G _ (resting u e n) h k o g = rests_not (get_or image p 0) 5 0 (own_evaluated image c p K u h ∙ e) k refl

  pub exit_starting : (G : Term → Type 0) (u : Term) → Redex u → Hole image c p u K → kind_at (get_or image p 0) ≡ 6 → None ≡ paused_part image c p K →
      ((i : ℕ) (f a : Term) → Value f → Value a → Hole image c p (start i f a) K → G (start i f a)) → G u
  exit_starting G _ (pausing F t v pr) h k o g = none_some (o ∙ pause_law image c p K _ (pausing F t v pr) h)
  exit_starting G _ (capturing l t v b d e) h k o g = none_some (o ∙ pause_law image c p K _ (capturing l t v b d e) h)
  exit_starting G _ (applying f a x y) h k o g = absurd (omega (arith, own_kind image c p K _ h, k))
  exit_starting G _ (yielding a x) h k o g = absurd (omega (arith, own_kind image c p K _ h, k))
  exit_starting G _ (starting i f a x y) h k o g = g i f a x y h
  exit_starting G _ (resuming a b d e x y z w) h k o g = absurd (omega (arith, own_kind image c p K _ h, k))
  exit_starting G _ (copying a x) h k o g = absurd (omega (arith, own_kind image c p K _ h, k))
  exit_starting G _ (fixing a x) h k o g = absurd (omega (arith, own_kind image c p K _ h, k))
  exit_starting G _ (operating n a b x y) h k o g = absurd (omega (arith, own_kind image c p K _ h, k))
  exit_starting G _ (ending l a b d e x) h k o g = absurd (omega (arith, own_kind image c p K _ h, k))
  exit_starting G _ (resting u e n) h k o g = rests_not (get_or image p 0) 6 1 (own_evaluated image c p K u h ∙ e) k refl

  pub exit_resuming : (G : Term → Type 0) (u : Term) → Redex u → Hole image c p u K → kind_at (get_or image p 0) ≡ 7 → None ≡ paused_part image c p K →
      ((a b d e : Term) → Value a → Value b → Value d → Value e → Hole image c p (resume a b d e) K → G (resume a b d e)) → G u
  exit_resuming G _ (pausing F t v pr) h k o g = none_some (o ∙ pause_law image c p K _ (pausing F t v pr) h)
  exit_resuming G _ (capturing l t v b d e) h k o g = none_some (o ∙ pause_law image c p K _ (capturing l t v b d e) h)
  exit_resuming G _ (applying f a x y) h k o g = absurd (omega (arith, own_kind image c p K _ h, k))
  exit_resuming G _ (yielding a x) h k o g = absurd (omega (arith, own_kind image c p K _ h, k))
  exit_resuming G _ (starting i f a x y) h k o g = absurd (omega (arith, own_kind image c p K _ h, k))
  exit_resuming G _ (resuming a b d e x y z w) h k o g = g a b d e x y z w h
  exit_resuming G _ (copying a x) h k o g = absurd (omega (arith, own_kind image c p K _ h, k))
  exit_resuming G _ (fixing a x) h k o g = absurd (omega (arith, own_kind image c p K _ h, k))
  exit_resuming G _ (operating n a b x y) h k o g = absurd (omega (arith, own_kind image c p K _ h, k))
  exit_resuming G _ (ending l a b d e x) h k o g = absurd (omega (arith, own_kind image c p K _ h, k))
  exit_resuming G _ (resting u e n) h k o g = rests_not (get_or image p 0) 7 3 (own_evaluated image c p K u h ∙ e) k refl

  pub exit_copying : (G : Term → Type 0) (u : Term) → Redex u → Hole image c p u K → kind_at (get_or image p 0) ≡ 8 → None ≡ paused_part image c p K →
      ((a : Term) → Value a → Hole image c p (snapshot a) K → G (snapshot a)) → G u
  exit_copying G _ (pausing F t v pr) h k o g = none_some (o ∙ pause_law image c p K _ (pausing F t v pr) h)
  exit_copying G _ (capturing l t v b d e) h k o g = none_some (o ∙ pause_law image c p K _ (capturing l t v b d e) h)
  exit_copying G _ (applying f a x y) h k o g = absurd (omega (arith, own_kind image c p K _ h, k))
  exit_copying G _ (yielding a x) h k o g = absurd (omega (arith, own_kind image c p K _ h, k))
  exit_copying G _ (starting i f a x y) h k o g = absurd (omega (arith, own_kind image c p K _ h, k))
  exit_copying G _ (resuming a b d e x y z w) h k o g = absurd (omega (arith, own_kind image c p K _ h, k))
  exit_copying G _ (copying a x) h k o g = g a x h
  exit_copying G _ (fixing a x) h k o g = absurd (omega (arith, own_kind image c p K _ h, k))
  exit_copying G _ (operating n a b x y) h k o g = absurd (omega (arith, own_kind image c p K _ h, k))
  exit_copying G _ (ending l a b d e x) h k o g = absurd (omega (arith, own_kind image c p K _ h, k))
  exit_copying G _ (resting u e n) h k o g = rests_not (get_or image p 0) 8 0 (own_evaluated image c p K u h ∙ e) k refl

  pub exit_fixing : (G : Term → Type 0) (u : Term) → Redex u → Hole image c p u K → kind_at (get_or image p 0) ≡ 9 → None ≡ paused_part image c p K →
      ((a : Term) → Value a → Hole image c p (fix a) K → G (fix a)) → G u
  exit_fixing G _ (pausing F t v pr) h k o g = none_some (o ∙ pause_law image c p K _ (pausing F t v pr) h)
  exit_fixing G _ (capturing l t v b d e) h k o g = none_some (o ∙ pause_law image c p K _ (capturing l t v b d e) h)
  exit_fixing G _ (applying f a x y) h k o g = absurd (omega (arith, own_kind image c p K _ h, k))
  exit_fixing G _ (yielding a x) h k o g = absurd (omega (arith, own_kind image c p K _ h, k))
  exit_fixing G _ (starting i f a x y) h k o g = absurd (omega (arith, own_kind image c p K _ h, k))
  exit_fixing G _ (resuming a b d e x y z w) h k o g = absurd (omega (arith, own_kind image c p K _ h, k))
  exit_fixing G _ (copying a x) h k o g = absurd (omega (arith, own_kind image c p K _ h, k))
  exit_fixing G _ (fixing a x) h k o g = g a x h
  exit_fixing G _ (operating n a b x y) h k o g = absurd (omega (arith, own_kind image c p K _ h, k))
  exit_fixing G _ (ending l a b d e x) h k o g = absurd (omega (arith, own_kind image c p K _ h, k))
  exit_fixing G _ (resting u e n) h k o g = rests_not (get_or image p 0) 9 0 (own_evaluated image c p K u h ∙ e) k refl

  pub exit_operating : (G : Term → Type 0) (u : Term) → Redex u → Hole image c p u K → kind_at (get_or image p 0) ≡ 11 → None ≡ paused_part image c p K →
      ((o : ℕ) (a b : Term) → Value a → Value b → Hole image c p (operation o a b) K → G (operation o a b)) → G u
  exit_operating G _ (pausing F t v pr) h k o g = none_some (o ∙ pause_law image c p K _ (pausing F t v pr) h)
  exit_operating G _ (capturing l t v b d e) h k o g = none_some (o ∙ pause_law image c p K _ (capturing l t v b d e) h)
  exit_operating G _ (applying f a x y) h k o g = absurd (omega (arith, own_kind image c p K _ h, k))
  exit_operating G _ (yielding a x) h k o g = absurd (omega (arith, own_kind image c p K _ h, k))
  exit_operating G _ (starting i f a x y) h k o g = absurd (omega (arith, own_kind image c p K _ h, k))
  exit_operating G _ (resuming a b d e x y z w) h k o g = absurd (omega (arith, own_kind image c p K _ h, k))
  exit_operating G _ (copying a x) h k o g = absurd (omega (arith, own_kind image c p K _ h, k))
  exit_operating G _ (fixing a x) h k o g = absurd (omega (arith, own_kind image c p K _ h, k))
  exit_operating G _ (operating n a b x y) h k o g = g n a b x y h
  exit_operating G _ (ending l a b d e x) h k o g = absurd (omega (arith, own_kind image c p K _ h, k))
  exit_operating G _ (resting u e n) h k o g = rests_not (get_or image p 0) 11 1 (own_evaluated image c p K u h ∙ e) k refl

  pub exit_ending : (G : Term → Type 0) (u : Term) → Redex u → Hole image c p u K → kind_at (get_or image p 0) ≡ 13 → None ≡ paused_part image c p K →
      ((l : ℕ) (a b d e : Term) → Value a → Hole image c p (resumption l a b d e) K → G (resumption l a b d e)) → G u
  exit_ending G _ (pausing F t v pr) h k o g = none_some (o ∙ pause_law image c p K _ (pausing F t v pr) h)
  exit_ending G _ (capturing l t v b d e) h k o g = none_some (o ∙ pause_law image c p K _ (capturing l t v b d e) h)
  exit_ending G _ (applying f a x y) h k o g = absurd (omega (arith, own_kind image c p K _ h, k))
  exit_ending G _ (yielding a x) h k o g = absurd (omega (arith, own_kind image c p K _ h, k))
  exit_ending G _ (starting i f a x y) h k o g = absurd (omega (arith, own_kind image c p K _ h, k))
  exit_ending G _ (resuming a b d e x y z w) h k o g = absurd (omega (arith, own_kind image c p K _ h, k))
  exit_ending G _ (copying a x) h k o g = absurd (omega (arith, own_kind image c p K _ h, k))
  exit_ending G _ (fixing a x) h k o g = absurd (omega (arith, own_kind image c p K _ h, k))
  exit_ending G _ (operating n a b x y) h k o g = absurd (omega (arith, own_kind image c p K _ h, k))
  exit_ending G _ (ending l a b d e x) h k o g = g l a b d e x h
  exit_ending G _ (resting u e n) h k o g = rests_not (get_or image p 0) 13 0 (own_evaluated image c p K u h ∙ e) k refl

  -- a suspension moves out of a frame
  pub exit_pausing : (G : Term → Type 0) (q : ℕ) (u : Term) → Redex u → Hole image c p u K → (kind_at (get_or image p 0) ≡ 13 → ⊥) →
      Some q ≡ paused_part image c p K →
      ((F : Frame) (t v : Term) → Proper F → q ≡ p + length (before_hole F) → Hole image c p (plug F (suspension t v)) K →
      G (plug F (suspension t v))) → G u
  exit_pausing G q _ (pausing F t v pr) h k o g = g F t v pr (some_some (o ∙ pause_law image c p K _ (pausing F t v pr) h)) h
  exit_pausing G q _ (capturing l t v b d e) h k o g = absurd (k (own_kind image c p K _ h))
  exit_pausing G q _ (applying f a x y) h k o g = none_some (sym (o ∙ pause_law image c p K _ (applying f a x y) h))
  exit_pausing G q _ (yielding a x) h k o g = none_some (sym (o ∙ pause_law image c p K _ (yielding a x) h))
  exit_pausing G q _ (starting i f a x y) h k o g = none_some (sym (o ∙ pause_law image c p K _ (starting i f a x y) h))
  exit_pausing G q _ (resuming a b d e x y z w) h k o g = none_some (sym (o ∙ pause_law image c p K _ (resuming a b d e x y z w) h))
  exit_pausing G q _ (copying a x) h k o g = none_some (sym (o ∙ pause_law image c p K _ (copying a x) h))
  exit_pausing G q _ (fixing a x) h k o g = none_some (sym (o ∙ pause_law image c p K _ (fixing a x) h))
  exit_pausing G q _ (operating n a b x y) h k o g = none_some (sym (o ∙ pause_law image c p K _ (operating n a b x y) h))
  exit_pausing G q _ (ending l a b d e x) h k o g = none_some (sym (o ∙ pause_law image c p K _ (ending l a b d e x) h))
  exit_pausing G q _ (resting u e n) h k o g = none_some (sym (o ∙ pause_law image c p K _ (resting u e n) h))

  -- it is captured by a resumption
  pub exit_capturing : (G : Term → Type 0) (q : ℕ) (u : Term) → Redex u → Hole image c p u K → kind_at (get_or image p 0) ≡ 13 →
      Some q ≡ paused_part image c p K →
      ((l : ℕ) (t v b d e : Term) → Hole image c p (resumption l (suspension t v) b d e) K → G (resumption l (suspension t v) b d e)) → G u
  exit_capturing G q _ (pausing F t v pr) h k o g = absurd (frame_kind F (suspension t v) (sym (own_kind image c p K _ h) ∙ k))
  exit_capturing G q _ (capturing l t v b d e) h k o g = g l t v b d e h
  exit_capturing G q _ (applying f a x y) h k o g = none_some (sym (o ∙ pause_law image c p K _ (applying f a x y) h))
  exit_capturing G q _ (yielding a x) h k o g = none_some (sym (o ∙ pause_law image c p K _ (yielding a x) h))
  exit_capturing G q _ (starting i f a x y) h k o g = none_some (sym (o ∙ pause_law image c p K _ (starting i f a x y) h))
  exit_capturing G q _ (resuming a b d e x y z w) h k o g = none_some (sym (o ∙ pause_law image c p K _ (resuming a b d e x y z w) h))
  exit_capturing G q _ (copying a x) h k o g = none_some (sym (o ∙ pause_law image c p K _ (copying a x) h))
  exit_capturing G q _ (fixing a x) h k o g = none_some (sym (o ∙ pause_law image c p K _ (fixing a x) h))
  exit_capturing G q _ (operating n a b x y) h k o g = none_some (sym (o ∙ pause_law image c p K _ (operating n a b x y) h))
  exit_capturing G q _ (ending l a b d e x) h k o g = none_some (sym (o ∙ pause_law image c p K _ (ending l a b d e x) h))
  exit_capturing G q _ (resting u e n) h k o g = none_some (sym (o ∙ pause_law image c p K _ (resting u e n) h))

  -- no line applies
  pub exit_none : (Q : Meaning) (u : Term) → Redex u → Hole image c p u K →
      (kind_at (get_or image p 0) ≡ 4 → ⊥) → (kind_at (get_or image p 0) ≡ 5 → ⊥) → (kind_at (get_or image p 0) ≡ 6 → ⊥) →
      (kind_at (get_or image p 0) ≡ 7 → ⊥) → (kind_at (get_or image p 0) ≡ 8 → ⊥) → (kind_at (get_or image p 0) ≡ 9 → ⊥) →
      (kind_at (get_or image p 0) ≡ 11 → ⊥) → (kind_at (get_or image p 0) ≡ 13 → ⊥) →
      None ≡ paused_part image c p K → (μ : Bindings) → next Q u μ ≡ None
  exit_none Q _ (pausing F t v pr) h k4 k5 k6 k7 k8 k9 k11 k13 o μ = none_some (o ∙ pause_law image c p K _ (pausing F t v pr) h)
  exit_none Q _ (capturing l t v b d e) h k4 k5 k6 k7 k8 k9 k11 k13 o μ = none_some (o ∙ pause_law image c p K _ (capturing l t v b d e) h)
  exit_none Q _ (applying f a x y) h k4 k5 k6 k7 k8 k9 k11 k13 o μ = absurd (k4 (own_kind image c p K _ h))
  exit_none Q _ (yielding a x) h k4 k5 k6 k7 k8 k9 k11 k13 o μ = absurd (k5 (own_kind image c p K _ h))
  exit_none Q _ (starting i f a x y) h k4 k5 k6 k7 k8 k9 k11 k13 o μ = absurd (k6 (own_kind image c p K _ h))
  exit_none Q _ (resuming a b d e x y z w) h k4 k5 k6 k7 k8 k9 k11 k13 o μ = absurd (k7 (own_kind image c p K _ h))
  exit_none Q _ (copying a x) h k4 k5 k6 k7 k8 k9 k11 k13 o μ = absurd (k8 (own_kind image c p K _ h))
  exit_none Q _ (fixing a x) h k4 k5 k6 k7 k8 k9 k11 k13 o μ = absurd (k9 (own_kind image c p K _ h))
  exit_none Q _ (operating n a b x y) h k4 k5 k6 k7 k8 k9 k11 k13 o μ = absurd (k11 (own_kind image c p K _ h))
  exit_none Q _ (ending l a b d e x) h k4 k5 k6 k7 k8 k9 k11 k13 o μ = absurd (k13 (own_kind image c p K _ h))
  exit_none Q _ (resting u e n) h k4 k5 k6 k7 k8 k9 k11 k13 o μ = n Q μ
