-- The path as a relation and the path computed by the term say the same.
use Rattle.std.proofs.Common.{◌≡◌, ℕ, Bool, true, false, List, [], refl}
use Rattle.calculus.specs.Terms.{Term, unit, variable, abstraction, coroutine, application, yield, start, resume, snapshot, fix, atom, operation, instance, resumption, suspension, is_value}
use Rattle.calculus.specs.Frames.{application_left, application_right, yield_frame, start_left, start_right, resume_first, resume_second, resume_third, resume_fourth, snapshot_frame, fix_frame, operation_left, operation_right}
use Rattle.calculus.specs.Shape.{Plain, Active, p_plain, p_suspended, p_through, p_executing}
use Rattle.calculus.proofs.Live.{Split, Live}
use Rattle.calculus.proofs.LiveFrames.{plain_live, live_plug}

pub on→live : {t : Term} {ls : List ℕ} → Active t ls → Live t ls
on→live {t} (p_plain p) = plain_live t p
on→live (p_suspended p q v) = (refl, p, q, v)
on→live (p_through F {t = t} {ls = ls} p s h) = live_plug F t ls p s (on→live h)
on→live (p_executing v p h) = (_, refl, on→live h, v, p)

none_on : {t : Term} {ls : List ℕ} → Plain t → ls ≡ [] → Active t ls
none_on {t} p e = rw e (p_plain p)

by_split : {A B C : Type 0} (b : Bool) → (b ≡ true → A → C) → (b ≡ false → B → C) → Split b A B → C
by_split true f g h = f refl h
by_split false f g h = g refl h

pub live→on : (t : Term) (ls : List ℕ) → Live t ls → Active t ls
live→on unit ls h = none_on tt h
live→on (variable n) ls h = none_on tt h
live→on (abstraction x r b) ls h = none_on h.0 h.1
live→on (coroutine x r b) ls h = none_on h.0 h.1
live→on (application f a) ls h =
    by_split (is_value f) (λ v k. p_through (application_right f) v k.0 (live→on a ls k.1))
    (λ _ k. p_through (application_left a) tt k.1 (live→on f ls k.0)) h
live→on (yield t) ls h = p_through yield_frame tt tt (live→on t ls h)
live→on (start i f a) ls h =
    by_split (is_value f) (λ v k. p_through (start_right i f) v k.0 (live→on a ls k.1))
    (λ _ k. p_through (start_left i a) tt k.1 (live→on f ls k.0)) h
live→on (resume a b c d) ls h =
    by_split (is_value a)
    (λ va k.
    by_split (is_value b)
    (λ vb m.
    by_split (is_value c) (λ vc n. p_through (resume_fourth a b c) (va, vb, vc) (k.0, m.0, n.0) (live→on d ls n.1))
    (λ _ n. p_through (resume_third a b d) (va, vb) (k.0, m.0, n.1) (live→on c ls n.0)) m.1)
    (λ _ m. p_through (resume_second a c d) va (k.0, m.1, m.2) (live→on b ls m.0)) k.1)
    (λ _ k. p_through (resume_first b c d) tt (k.1, k.2, k.3) (live→on a ls k.0)) h
live→on (snapshot t) ls h = p_through snapshot_frame tt tt (live→on t ls h)
live→on (fix t) ls h = p_through fix_frame tt tt (live→on t ls h)
live→on (atom k p) ls h = none_on tt h
live→on (operation o a b) ls h =
    by_split (is_value a) (λ v k. p_through (operation_right o a) v k.0 (live→on b ls k.1))
    (λ _ k. p_through (operation_left o b) tt k.1 (live→on a ls k.0)) h
live→on (instance l r) ls h = none_on tt h
live→on (resumption l a b c d) ls h = rw h.1 (p_executing h.3 h.4 (live→on a h.0 h.2))
live→on (suspension t v) ls h = rw h.0 (p_suspended h.1 h.2 h.3)
