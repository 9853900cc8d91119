-- The path through a frame: what lies on it, from the part to the whole and back.
use Rattle.std.proofs.Common.{◌≡◌, ℕ, Bool, true, false, List, [], sym, refl}
use Rattle.calculus.specs.Terms.{Term, unit, variable, abstraction, coroutine, application, yield, start, resume, snapshot, fix, atom, operation, instance, resumption, suspension, is_value, Value}
use Rattle.calculus.specs.Frames.{Frame, application_left, application_right, yield_frame, start_left, start_right, resume_first, resume_second, resume_third, resume_fourth, snapshot_frame, fix_frame, operation_left, operation_right, plug, Proper}
use Rattle.calculus.specs.Shape.{Plain, Beside}
use Rattle.calculus.proofs.Tests.{never}
use Rattle.calculus.proofs.Live.{Split, Live}

module _ {A B : Type 0} where
  pub branch : (b : Bool) → (b ≡ true → A) → (b ≡ false → B) → Split b A B
  branch true f g = f refl
  branch false f g = g refl

  pub both : (b : Bool) → A → B → Split b A B
  both true x y = x
  both false x y = y

pub plain_live : (t : Term) → Plain t → Live t []
plain_live unit p = refl
plain_live (variable n) p = refl
plain_live (abstraction x r b) p = (p, refl)
plain_live (coroutine x r b) p = (p, refl)
plain_live (application f a) p = both (is_value f) (p.0, plain_live a p.1) (plain_live f p.0, p.1)
plain_live (yield t) p = plain_live t p
plain_live (start i f a) p = both (is_value f) (p.0, plain_live a p.1) (plain_live f p.0, p.1)
plain_live (resume a b c d) p =
    both (is_value a) (
      p.0,
      both (is_value b) (p.1, both (is_value c) (p.2, plain_live d p.3) (plain_live c p.2, p.3))
          (plain_live b p.1, p.2, p.3),
    )
    (plain_live a p.0, p.1, p.2, p.3)
plain_live (snapshot t) p = plain_live t p
plain_live (fix t) p = plain_live t p
plain_live (atom k q) p = refl
plain_live (operation o a b) p = both (is_value a) (p.0, plain_live b p.1) (plain_live a p.0, p.1)
plain_live (instance l r) p = refl
plain_live (resumption l a b c d) p = absurd p
plain_live (suspension t v) p = absurd p

pub value_live : (t : Term) (ls : List ℕ) → Value t → Live t ls → Plain t × (ls ≡ [])
value_live unit ls v h = (tt, h)
value_live (variable n) ls v h = never v
value_live (abstraction x r b) ls v h = h
value_live (coroutine x r b) ls v h = h
value_live (application f a) ls v h = never v
value_live (yield t) ls v h = never v
value_live (start i f a) ls v h = never v
value_live (resume a b c d) ls v h = never v
value_live (snapshot t) ls v h = never v
value_live (fix t) ls v h = never v
value_live (atom k q) ls v h = (tt, h)
value_live (operation o a b) ls v h = never v
value_live (instance l r) ls v h = (tt, h)
value_live (resumption l a b c d) ls v h = never v
value_live (suspension t u) ls v h = never v

-- what Split says, the test known
pub passed : (b : Bool) (A B : Type 0) → b ≡ true → Split b A B → A
passed true A B e h = h
passed false A B e h = never e

pub failed : (b : Bool) (A B : Type 0) → b ≡ false → Split b A B → B
failed true A B e h = never (sym e)
failed false A B e h = h

pub live_part : (F : Frame) (t : Term) (ls : List ℕ) → Proper F → is_value t ≡ false → Live (plug F t) ls → Beside F × Live t ls
live_part (application_left a) t ls p e h = let k = failed (is_value t) _ _ e h in (k.1, k.0)
live_part (application_right f) t ls p e h = passed (is_value f) _ _ p h
live_part yield_frame t ls p e h = (tt, h)
live_part (start_left i a) t ls p e h = let k = failed (is_value t) _ _ e h in (k.1, k.0)
live_part (start_right i f) t ls p e h = passed (is_value f) _ _ p h
live_part (resume_first b c d) t ls p e h = let k = failed (is_value t) _ _ e h in ((k.1, k.2, k.3), k.0)
live_part (resume_second a c d) t ls p e h =
    let k = passed (is_value a) _ _ p h in let m = failed (is_value t) _ _ e k.1 in ((k.0, m.1, m.2), m.0)
live_part (resume_third a b d) t ls p e h =
    let k = passed (is_value a) _ _ p.0 h in let m = passed (is_value b) _ _ p.1 k.1 in
    let n = failed (is_value t) _ _ e m.1 in ((k.0, m.0, n.1), n.0)
live_part (resume_fourth a b c) t ls p e h =
    let k = passed (is_value a) _ _ p.0 h in let m = passed (is_value b) _ _ p.1 k.1 in
    let n = passed (is_value c) _ _ p.2 m.1 in ((k.0, m.0, n.0), n.1)
live_part snapshot_frame t ls p e h = (tt, h)
live_part fix_frame t ls p e h = (tt, h)
live_part (operation_left o b) t ls p e h = let k = failed (is_value t) _ _ e h in (k.1, k.0)
live_part (operation_right o a) t ls p e h = passed (is_value a) _ _ p h

pub plain_at : (t : Term) (ls : List ℕ) → ls ≡ [] → Plain t → Live t ls
plain_at t ls e p = rw e (plain_live t p)

pub live_plug : (F : Frame) (t : Term) (ls : List ℕ) → Proper F → Beside F → Live t ls → Live (plug F t) ls
live_plug (application_left a) t ls p s h =
    branch (is_value t) (λ v. let k = value_live t ls v h in (k.0, plain_at a ls k.1 s)) (λ _. (h, s))
live_plug (application_right f) t ls p s h = rw p (s, h)
live_plug yield_frame t ls p s h = h
live_plug (start_left i a) t ls p s h =
    branch (is_value t) (λ v. let k = value_live t ls v h in (k.0, plain_at a ls k.1 s)) (λ _. (h, s))
live_plug (start_right i f) t ls p s h = rw p (s, h)
live_plug (resume_first b c d) t ls p s h =
    branch (is_value t)
    (λ v. let k = value_live t ls v h in (
      k.0,
      both (is_value b) (s.0, both (is_value c) (s.1, plain_at d ls k.1 s.2) (plain_at c ls k.1 s.1, s.2))
          (plain_at b ls k.1 s.0, s.1, s.2),
    ))
    (λ _. (h, s.0, s.1, s.2))
live_plug (resume_second a c d) t ls p s h =
    rw p (
      s.0,
      branch (is_value t)
          (λ v. let k = value_live t ls v h in (
            k.0,
            both (is_value c) (s.1, plain_at d ls k.1 s.2)
                (plain_at c ls k.1 s.1, s.2),
          ))
          (λ _. (h, s.1, s.2)),
    )
live_plug (resume_third a b d) t ls p s h =
    rw (p.0, p.1) (
      s.0,
      (
        s.1,
        branch (is_value t) (λ v. let k = value_live t ls v h in (k.0, plain_at d ls k.1 s.2)) (λ _. (h, s.2)),
      ),
    )
live_plug (resume_fourth a b c) t ls p s h = rw (p.0, p.1, p.2) (s.0, (s.1, (s.2, h)))
live_plug snapshot_frame t ls p s h = h
live_plug fix_frame t ls p s h = h
live_plug (operation_left o b) t ls p s h =
    branch (is_value t) (λ v. let k = value_live t ls v h in (k.0, plain_at b ls k.1 s)) (λ _. (h, s))
live_plug (operation_right o a) t ls p s h = rw p (s, h)
