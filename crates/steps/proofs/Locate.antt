-- The path's last term, and what surrounds it.
use Rattle.std.proofs.Common.{◌≡◌, ℕ, ◌+◌, false, List, [], ◌∷◌, ◌++◌, length, Some, None, Option, sym, refl, ap, ◌∙◌, subst, append_assoc, append-nil, arith, length-append}
use Rattle.quantities.specs.Meaning.{Meaning}
use Rattle.calculus.specs.Terms.{Term, unit, variable, abstraction, coroutine, application, yield, start, resume, snapshot, fix, atom, operation, instance, resumption, suspension, is_value, is_suspension, Value}
use Rattle.calculus.specs.Occurrences.{word_at}
use Rattle.calculus.specs.Configurations.{Bindings, Configuration}
use Rattle.calculus.specs.Frames.{Frame, application_left, application_right, yield_frame, start_left, start_right, resume_first, resume_second, resume_third, resume_fourth, snapshot_frame, fix_frame, operation_left, operation_right, plug, Proper}
use Rattle.calculus.specs.Places.{evaluated, path}
use Rattle.calculus.specs.Views.{is_other, view}
use Rattle.calculus.specs.Next.{within, moves, next}
use Rattle.layout.specs.declared.Word.TheVariants as W
use Rattle.layout.specs.Layout.{word_of}
use Rattle.encoding.specs.Encoding.{encode}
use Rattle.image.specs.Places.{Right}
use Rattle.lines.specs.Frames.{before_hole, behind_hole}
use Rattle.lines.proofs.Sorts.{Sort, a_value, a_suspension, active, sort}
use Rattle.lines.proofs.Around.{frame_words, frame_right, frame_path, frame_pause, next_plug}

-- what can stand at the end of the path
pub data Redex : Term → Type 0 where
  pausing : (F : Frame) (t v : Term) → Proper F → Redex (plug F (suspension t v))
  capturing : (l : ℕ) (t v b c d : Term) → Redex (resumption l (suspension t v) b c d)
  applying : (f a : Term) → Value f → Value a → Redex (application f a)
  yielding : (v : Term) → Value v → Redex (yield v)
  starting : (i : ℕ) (f a : Term) → Value f → Value a → Redex (start i f a)
  resuming : (a b c d : Term) → Value a → Value b → Value c → Value d → Redex (resume a b c d)
  copying : (a : Term) → Value a → Redex (snapshot a)
  fixing : (a : Term) → Value a → Redex (fix a)
  operating : (o : ℕ) (a b : Term) → Value a → Value b → Redex (operation o a b)
  ending : (l : ℕ) (a b c d : Term) → Value a → Redex (resumption l a b c d)
  resting : (u : Term) → evaluated u ≡ 0 → ((Q : Meaning) (μ : Bindings) → next Q u μ ≡ None) → Redex u

-- the path through t ends at u, and K puts another term in its place
pub record Located (Q : Meaning) (t : Term) : Type 0 where
  pub u : Term
  pub K : Term → Term
  pub before : List ℕ
  pub behind : List ℕ
  pub place : word_at t (path t) ≡ length before
  pub words : (x : Term) → encode (K x) ≡ before ++ (encode x ++ behind)
  pub whole : K u ≡ t
  pub steps : (μ : Bindings) → next Q t μ ≡ within K (next Q u μ)
  pub right : (n : ℕ) → Right n t → Right n u
  pub redex : Redex u

within_itself : (n : Option Configuration) → n ≡ within (λ x. x) n
within_itself None = refl
within_itself (Some c) = refl

within_within : (f g : Term → Term) (n : Option Configuration) → within f (within g n) ≡ within (λ x. f (g x)) n
within_within f g None = refl
within_within f g (Some c) = refl

module _ (Q : Meaning) where
  -- the path ends at the term itself
  here : (t : Term) → word_at t (path t) ≡ 0 → Redex t → Located Q t
  here t e r = record {
    u = t;
    K = λ x. x;
    before = [];
    behind = [];
    place = e;
    words = λ x. sym (append-nil (encode x));
    whole = refl;
    steps = λ μ. within_itself (next Q t μ);
    right = λ n h. h;
    redex = r;
  }

  -- one level out
  out : (t : Term) (C : Term → Term) (xs ys : List ℕ) → ((x : Term) → encode (C x) ≡ xs ++ (encode x ++ ys)) →
      word_at (C t) (path (C t)) ≡ length xs + word_at t (path t) → ((μ : Bindings) → next Q (C t) μ ≡ within C (next Q t μ)) →
      ((n : ℕ) → Right n (C t) → Right n t) → Located Q t → Located Q (C t)
  out t C xs ys w p s r l = record {
    u = l.u;
    K = λ x. C (l.K x);
    before = xs ++ l.before;
    behind = l.behind ++ ys;
    place = omega (arith, p, l.place, length-append xs l.before);
    words = λ x. w (l.K x) ∙ ap (λ k. xs ++ (k ++ ys)) (l.words x) ∙ simp append_assoc;
    whole = ap C l.whole;
    steps = λ μ. s μ ∙ ap (within C) (l.steps μ) ∙ within_within C l.K (next Q l.u μ);
    right = λ n h. l.right n (r n h);
    redex = l.redex;
  }

  inside : (F : Frame) (t : Term) → Proper F → is_value t ≡ false → is_suspension t ≡ false → view t ≡ is_other → Located Q t →
      Located Q (plug F t)
  inside F t p e s v l =
      out t (plug F) (before_hole F) (behind_hole F) (frame_words F) (frame_path F t p e s)
      (λ μ. next_plug Q F t μ p e ∙ ap (λ w. moves F w μ (next Q t μ)) v) (λ n. frame_right n F t) l

  -- where the part t of a frame is a value, the later parts are looked at
  look : (F : Frame) (t : Term) → Proper F → Located Q t → (Value t → Located Q (plug F t)) → Located Q (plug F t)
  look F t p l later = go (sort t)
    where
      go : Sort t → Located Q (plug F t)
      go (a_value v) = later v
      go (a_suspension a v e) =
          subst (λ x. Located Q (plug F x)) (sym e) (here (plug F (suspension a v)) (frame_pause F a v p) (pausing F a v p))
      go (active e s v) = inside F t p e s v l

  executing : (m : ℕ) (t b c d : Term) → Located Q t → Located Q (resumption m t b c d)
  unfolding next
  executing m t b c d l = go (sort t)
    where
      go : Sort t → Located Q (resumption m t b c d)
      go (a_value v) = here (resumption m t b c d) (rw v) (ending m t b c d v)
      go (a_suspension a v e) =
          subst (λ x. Located Q (resumption m x b c d)) (sym e)
          (here (resumption m (suspension a v) b c d) refl (capturing m a v b c d))
      go (active e s v) =
          out t (λ x. resumption m x b c d) (word_of (W.Resumption m) ∷ []) (encode b ++ (encode c ++ encode d)) (λ x. refl)
          (rw (e, s) (omega arith)) (λ μ. rw (e, v)) (λ n h. (h.0.1, h.1.2.0)) l

  rest : (t : Term) → word_at t (path t) ≡ 0 → evaluated t ≡ 0 → ((R : Meaning) (μ : Bindings) → next R t μ ≡ None) → Located Q t
  rest t e n z = here t e (resting t n z)

  pub locate : (t : Term) → Located Q t
  unfolding next
  locate unit = rest unit refl refl (λ R μ. refl)
  locate (variable x) = rest (variable x) refl refl (λ R μ. refl)
  locate (abstraction x r b) = rest (abstraction x r b) refl refl (λ R μ. refl)
  locate (coroutine x r b) = rest (coroutine x r b) refl refl (λ R μ. refl)
  locate (application f a) =
      look (application_left a) f tt (locate f)
      λ v. look (application_right f) a v (locate a) λ w. here (application f a) (rw (v, w)) (applying f a v w)
  locate (yield a) = look yield_frame a tt (locate a) λ v. here (yield a) (rw v) (yielding a v)
  locate (start r f a) =
      look (start_left r a) f tt (locate f)
      λ v. look (start_right r f) a v (locate a) λ w. here (start r f a) (rw (v, w)) (starting r f a v w)
  locate (resume a b c d) =
      look (resume_first b c d) a tt (locate a)
      λ v. look (resume_second a c d) b v (locate b)
      λ w. look (resume_third a b d) c (v, w) (locate c)
      λ x. look (resume_fourth a b c) d (v, w, x) (locate d)
      λ y. here (resume a b c d) (rw (v, w, x, y)) (resuming a b c d v w x y)
  locate (snapshot a) = look snapshot_frame a tt (locate a) λ v. here (snapshot a) (rw v) (copying a v)
  locate (fix a) = look fix_frame a tt (locate a) λ v. here (fix a) (rw v) (fixing a v)
  locate (atom k p) = rest (atom k p) refl refl (λ R μ. refl)
  locate (operation o a b) =
      look (operation_left o b) a tt (locate a)
      λ v. look (operation_right o a) b v (locate b) λ w. here (operation o a b) (rw (v, w)) (operating o a b v w)
  locate (instance l r) = rest (instance l r) refl refl (λ R μ. refl)
  locate (resumption l a b c d) = executing l a b c d (locate a)
  locate (suspension t v) = rest (suspension t v) refl refl (λ R μ. refl)
