-- Terms without resumption and suspension: replacement and frames keep them so.
use Rattle.std.proofs.Common.{ℕ, Bool, true, false, cond, eqb}
use Rattle.calculus.specs.Terms.{Term, unit, variable, abstraction, coroutine, application, yield, start, resume, snapshot, fix, atom, operation, instance, resumption, suspension}
use Rattle.calculus.specs.Replacement.{replace}
use Rattle.calculus.specs.Frames.{Frame, application_left, application_right, yield_frame, start_left, start_right, resume_first, resume_second, resume_third, resume_fourth, snapshot_frame, fix_frame, operation_left, operation_right, plug}
use Rattle.calculus.specs.Shape.{Plain, Beside}

plain_cond : (b : Bool) (t u : Term) → Plain t → Plain u → Plain (cond b t u)
plain_cond true t u p q = p
plain_cond false t u p q = q

pub plain_replace : (x : ℕ) (s : Term) → Plain s → (t : Term) → Plain t → Plain (replace x s t)
plain_replace x s q unit p = tt
plain_replace x s q (variable n) p = plain_cond (eqb n x) s (variable n) q tt
plain_replace x s q (abstraction y r b) p = plain_cond (eqb y x) b (replace x s b) p (plain_replace x s q b p)
plain_replace x s q (coroutine y r b) p = plain_cond (eqb y x) b (replace x s b) p (plain_replace x s q b p)
plain_replace x s q (application f a) p = (plain_replace x s q f p.0, plain_replace x s q a p.1)
plain_replace x s q (yield t) p = plain_replace x s q t p
plain_replace x s q (start i f a) p = (plain_replace x s q f p.0, plain_replace x s q a p.1)
plain_replace x s q (resume a b c d) p =
    (plain_replace x s q a p.0, plain_replace x s q b p.1, plain_replace x s q c p.2, plain_replace x s q d p.3)
plain_replace x s q (snapshot t) p = plain_replace x s q t p
plain_replace x s q (fix t) p = plain_replace x s q t p
plain_replace x s q (atom k n) p = tt
plain_replace x s q (operation o a b) p = (plain_replace x s q a p.0, plain_replace x s q b p.1)
plain_replace x s q (instance l r) p = tt
plain_replace x s q (resumption l a b c d) p = absurd p
plain_replace x s q (suspension t v) p = absurd p

pub plain_plug : (F : Frame) (t : Term) → Beside F → Plain t → Plain (plug F t)
plain_plug (application_left a) t s p = (p, s)
plain_plug (application_right f) t s p = (s, p)
plain_plug yield_frame t s p = p
plain_plug (start_left i a) t s p = (p, s)
plain_plug (start_right i f) t s p = (s, p)
plain_plug (resume_first b c d) t s p = (p, s.0, s.1, s.2)
plain_plug (resume_second a c d) t s p = (s.0, p, s.1, s.2)
plain_plug (resume_third a b d) t s p = (s.0, s.1, p, s.2)
plain_plug (resume_fourth a b c) t s p = (s.0, s.1, s.2, p)
plain_plug snapshot_frame t s p = p
plain_plug fix_frame t s p = p
plain_plug (operation_left o b) t s p = (p, s)
plain_plug (operation_right o a) t s p = (s, p)
