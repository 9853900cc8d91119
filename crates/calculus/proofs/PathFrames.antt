-- The path through a frame, and induction along the path.
use Rattle.std.proofs.Common.{◌≡◌, ℕ, Bool, true, false, cond, [], ◌∷◌, Some, refl}
use Rattle.calculus.specs.Lists.{at, put}
use Rattle.calculus.specs.Terms.{Term, unit, variable, abstraction, coroutine, application, yield, start, resume, snapshot, fix, atom, operation, instance, resumption, suspension, is_value, is_suspension, Value}
use Rattle.calculus.specs.Parts.{parts, with_parts}
use Rattle.calculus.specs.Occurrences.{Position, term_at, put_at}
use Rattle.calculus.specs.Frames.{Frame, application_left, application_right, yield_frame, start_left, start_right, resume_first, resume_second, resume_third, resume_fourth, snapshot_frame, fix_frame, operation_left, operation_right, plug, Proper}
use Rattle.calculus.specs.Places.{enter, path}

-- which part of its term the hole is
abbrev pub number : Frame → ℕ
number (application_left a) = 0
number (application_right f) = 1
number yield_frame = 0
number (start_left i a) = 0
number (start_right i f) = 1
number (resume_first b c d) = 0
number (resume_second a c d) = 1
number (resume_third a b d) = 2
number (resume_fourth a b c) = 3
number snapshot_frame = 0
number fix_frame = 0
number (operation_left o b) = 0
number (operation_right o a) = 1

-- the term in a frame's hole is the part of the hole's number
pub part_plug : (F : Frame) (t : Term) → at (parts (plug F t)) (number F) ≡ Some t
part_plug (application_left a) t = refl
part_plug (application_right f) t = refl
part_plug yield_frame t = refl
part_plug (start_left i a) t = refl
part_plug (start_right i f) t = refl
part_plug (resume_first b c d) t = refl
part_plug (resume_second a c d) t = refl
part_plug (resume_third a b d) t = refl
part_plug (resume_fourth a b c) t = refl
part_plug snapshot_frame t = refl
part_plug fix_frame t = refl
part_plug (operation_left o b) t = refl
part_plug (operation_right o a) t = refl

with_plug : (F : Frame) (t s : Term) → with_parts (plug F t) (put (parts (plug F t)) (number F) s) ≡ plug F s
with_plug (application_left a) t s = refl
with_plug (application_right f) t s = refl
with_plug yield_frame t s = refl
with_plug (start_left i a) t s = refl
with_plug (start_right i f) t s = refl
with_plug (resume_first b c d) t s = refl
with_plug (resume_second a c d) t s = refl
with_plug (resume_third a b d) t s = refl
with_plug (resume_fourth a b c) t s = refl
with_plug snapshot_frame t s = refl
with_plug fix_frame t s = refl
with_plug (operation_left o b) t s = refl
with_plug (operation_right o a) t s = refl

pub term_plug : (F : Frame) (t : Term) (q : Position) → term_at (plug F t) (number F ∷ q) ≡ term_at t q
term_plug F t q = rw (part_plug F t, term_at)

pub put_plug : (F : Frame) (t : Term) (q : Position) (s : Term) → put_at (plug F t) (number F ∷ q) s ≡ plug F (put_at t q s)
put_plug F t q s = rw (part_plug F t, put_at) (with_plug F t (put_at t q s))

-- the path enters a part that is no value and no suspension, where the parts left of it are values
pub path_plug : (F : Frame) (t : Term) → Proper F → is_value t ≡ false → is_suspension t ≡ false → path (plug F t) ≡ number F ∷ path t
path_plug (application_left a) t p e h = rw (e, h)
path_plug (application_right f) t p e h = rw (p, e, h)
path_plug yield_frame t p e h = rw (e, h)
path_plug (start_left i a) t p e h = rw (e, h)
path_plug (start_right i f) t p e h = rw (p, e, h)
path_plug (resume_first b c d) t p e h = rw (e, h)
path_plug (resume_second a c d) t p e h = rw (p, e, h)
path_plug (resume_third a b d) t p e h = rw (p.0, p.1, e, h)
path_plug (resume_fourth a b c) t p e h = rw (p.0, p.1, p.2, e, h)
path_plug snapshot_frame t p e h = rw (e, h)
path_plug fix_frame t p e h = rw (e, h)
path_plug (operation_left o b) t p e h = rw (e, h)
path_plug (operation_right o a) t p e h = rw (p, e, h)

-- it ends before a suspension
pub path_suspended : (F : Frame) (t v : Term) → Proper F → path (plug F (suspension t v)) ≡ []
path_suspended (application_left a) t v p = refl
path_suspended (application_right f) t v p = rw p
path_suspended yield_frame t v p = refl
path_suspended (start_left i a) t v p = refl
path_suspended (start_right i f) t v p = rw p
path_suspended (resume_first b c d) t v p = refl
path_suspended (resume_second a c d) t v p = rw p
path_suspended (resume_third a b d) t v p = rw (p.0, p.1)
path_suspended (resume_fourth a b c) t v p = rw (p.0, p.1, p.2)
path_suspended snapshot_frame t v p = refl
path_suspended fix_frame t v p = refl
path_suspended (operation_left o b) t v p = refl
path_suspended (operation_right o a) t v p = rw p

-- what holds where the path ends, and is carried outwards through frames and resumptions, holds of every term and its path
module _
    (P : Term → Position → Type 0)
    (ends : (t : Term) → P t [])
    (through : (F : Frame) (t : Term) (q : Position) → Proper F → P t q → P (plug F t) (number F ∷ q))
    (into : (l : ℕ) (a b c d : Term) (q : Position) → P a q → P (resumption l a b c d) (0 ∷ q)) where
  by_enter : (F : Frame) (t : Term) (rest : Position) → Proper F → P t (path t) → (Value t → P (plug F t) rest) →
      P (plug F t) (enter (number F) t (path t) rest)
  by_enter F t rest p h last = go (is_value t) (is_suspension t) refl
    where
      go : (b c : Bool) → is_value t ≡ b → P (plug F t) (cond b rest (cond c [] (number F ∷ path t)))
      go true c v = last v
      go false true v = ends (plug F t)
      go false false v = through F t (path t) p h

  executing : (l : ℕ) (a b c d : Term) → P a (path a) → P (resumption l a b c d) (enter 0 a (path a) [])
  executing l a b c d h = go (is_value a) (is_suspension a)
    where
      go : (x y : Bool) → P (resumption l a b c d) (cond x [] (cond y [] (0 ∷ path a)))
      go true y = ends (resumption l a b c d)
      go false true = ends (resumption l a b c d)
      go false false = into l a b c d (path a) h

  pub along_path : (t : Term) → P t (path t)
  along_path unit = ends unit
  along_path (variable n) = ends (variable n)
  along_path (abstraction x r b) = ends (abstraction x r b)
  along_path (coroutine x r b) = ends (coroutine x r b)
  along_path (application f a) =
      by_enter (application_left a) f _ tt (along_path f)
      λ vf. by_enter (application_right f) a [] vf (along_path a) λ _. ends (application f a)
  along_path (yield t) = by_enter yield_frame t [] tt (along_path t) λ _. ends (yield t)
  along_path (start i f a) =
      by_enter (start_left i a) f _ tt (along_path f) λ vf. by_enter (start_right i f) a [] vf (along_path a) λ _. ends (start i f a)
  along_path (resume a b c d) =
      by_enter (resume_first b c d) a _ tt (along_path a)
      λ va. by_enter (resume_second a c d) b _ va (along_path b)
      λ vb. by_enter (resume_third a b d) c _ (va, vb) (along_path c)
      λ vc. by_enter (resume_fourth a b c) d [] (va, vb, vc) (along_path d) λ _. ends (resume a b c d)
  along_path (snapshot t) = by_enter snapshot_frame t [] tt (along_path t) λ _. ends (snapshot t)
  along_path (fix t) = by_enter fix_frame t [] tt (along_path t) λ _. ends (fix t)
  along_path (atom k p) = ends (atom k p)
  along_path (operation o a b) =
      by_enter (operation_left o b) a _ tt (along_path a)
      λ va. by_enter (operation_right o a) b [] va (along_path b) λ _. ends (operation o a b)
  along_path (instance l r) = ends (instance l r)
  along_path (resumption l a b c d) = executing l a b c d (along_path a)
  along_path (suspension t v) = ends (suspension t v)
