-- The rules on a term, as replacement, frames and more bindings keep them.
use Rattle.std.proofs.Common.{ℕ, ◌<◌, ◌≤◌, Bool, true, false, cond, eqb, arith}
use Rattle.calculus.specs.Terms.{Term, unit, variable, abstraction, coroutine, application, yield, start, resume, snapshot, fix, atom, operation, instance, resumption, suspension}
use Rattle.calculus.specs.Replacement.{replace}
use Rattle.calculus.specs.Configurations.{Formed}
use Rattle.calculus.specs.Frames.{Frame, application_left, application_right, yield_frame, start_left, start_right, resume_first, resume_second, resume_third, resume_fourth, snapshot_frame, fix_frame, operation_left, operation_right, plug}
use Rattle.calculus.proofs.Substitution.{replace_value}

-- with more bindings the labels are still below their number
pub formed_more : {m n : ℕ} → m ≤ n → (t : Term) → Formed m t → Formed n t
formed_more h unit f = tt
formed_more h (variable x) f = tt
formed_more h (abstraction x r b) f = formed_more h b f
formed_more h (coroutine x r b) f = formed_more h b f
formed_more h (application g a) f = (formed_more h g f.0, formed_more h a f.1)
formed_more h (yield t) f = formed_more h t f
formed_more h (start i g a) f = (formed_more h g f.0, formed_more h a f.1)
formed_more h (resume a b c d) f =
    (formed_more h a f.0, formed_more h b f.1, formed_more h c f.2, formed_more h d f.3)
formed_more h (snapshot t) f = formed_more h t f
formed_more h (fix t) f = formed_more h t f
formed_more h (atom k p) f = tt
formed_more h (operation o a b) f = (formed_more h a f.0, formed_more h b f.1)
formed_more h (instance l r) f = omega arith
formed_more {m} {n} h (resumption l a b c d) f =
    let k = f.2 in let below : l < m = f.0 in
    (omega arith, f.1, (formed_more h a k.0, formed_more h b k.1, formed_more h c k.2, formed_more h d k.3))
formed_more h (suspension t v) f = (f.0, formed_more h t f.1, formed_more h v f.2)

formed_cond : (n : ℕ) (b : Bool) (t u : Term) → Formed n t → Formed n u → Formed n (cond b t u)
formed_cond n true t u f g = f
formed_cond n false t u f g = g

module _ (n : ℕ) (x : ℕ) (s : Term) (g : Formed n s) where
  pub formed_replace : (t : Term) → Formed n t → Formed n (replace x s t)
  formed_replace unit f = tt
  formed_replace (variable y) f = formed_cond n (eqb y x) s (variable y) g tt
  formed_replace (abstraction y r b) f = formed_cond n (eqb y x) b (replace x s b) f (formed_replace b f)
  formed_replace (coroutine y r b) f = formed_cond n (eqb y x) b (replace x s b) f (formed_replace b f)
  formed_replace (application h a) f = (formed_replace h f.0, formed_replace a f.1)
  formed_replace (yield t) f = formed_replace t f
  formed_replace (start i h a) f = (formed_replace h f.0, formed_replace a f.1)
  formed_replace (resume a b c d) f =
      (formed_replace a f.0, formed_replace b f.1, formed_replace c f.2, formed_replace d f.3)
  formed_replace (snapshot t) f = formed_replace t f
  formed_replace (fix t) f = formed_replace t f
  formed_replace (atom k p) f = tt
  formed_replace (operation o a b) f = (formed_replace a f.0, formed_replace b f.1)
  formed_replace (instance l r) f = f
  formed_replace (resumption l a b c d) f =
      let k = f.2 in let v = f.1 in (
        f.0,
        (replace_value x s b v.0, replace_value x s c v.1, replace_value x s d v.2),
        (formed_replace a k.0, formed_replace b k.1, formed_replace c k.2, formed_replace d k.3),
      )
  formed_replace (suspension t v) f = (replace_value x s v f.0, formed_replace t f.1, formed_replace v f.2)

pub formed_part : (n : ℕ) (F : Frame) (t : Term) → Formed n (plug F t) → Formed n t
formed_part n (application_left a) t f = f.0
formed_part n (application_right h) t f = f.1
formed_part n yield_frame t f = f
formed_part n (start_left i a) t f = f.0
formed_part n (start_right i h) t f = f.1
formed_part n (resume_first b c d) t f = f.0
formed_part n (resume_second a c d) t f = f.1
formed_part n (resume_third a b d) t f = f.2
formed_part n (resume_fourth a b c) t f = f.3
formed_part n snapshot_frame t f = f
formed_part n fix_frame t f = f
formed_part n (operation_left o b) t f = f.0
formed_part n (operation_right o a) t f = f.1

-- another part in the frame, with more bindings
pub formed_plug : {m n : ℕ} → m ≤ n → (F : Frame) (t u : Term) → Formed m (plug F t) → Formed n u → Formed n (plug F u)
formed_plug h (application_left a) t u f g = (g, formed_more h a f.1)
formed_plug h (application_right k) t u f g = (formed_more h k f.0, g)
formed_plug h yield_frame t u f g = g
formed_plug h (start_left i a) t u f g = (g, formed_more h a f.1)
formed_plug h (start_right i k) t u f g = (formed_more h k f.0, g)
formed_plug h (resume_first b c d) t u f g = (g, formed_more h b f.1, formed_more h c f.2, formed_more h d f.3)
formed_plug h (resume_second a c d) t u f g = (formed_more h a f.0, g, formed_more h c f.2, formed_more h d f.3)
formed_plug h (resume_third a b d) t u f g = (formed_more h a f.0, formed_more h b f.1, g, formed_more h d f.3)
formed_plug h (resume_fourth a b c) t u f g = (formed_more h a f.0, formed_more h b f.1, formed_more h c f.2, g)
formed_plug h snapshot_frame t u f g = g
formed_plug h fix_frame t u f g = g
formed_plug h (operation_left o b) t u f g = (g, formed_more h b f.1)
formed_plug h (operation_right o a) t u f g = (formed_more h a f.0, g)
