-- Where resumptions do not occur: in plain terms, and beside the hole of a frame of good shape.
use Rattle.std.proofs.Common.{◌≡◌, ℕ, zero, suc, ◌⊎◌, List, [], ◌∷◌, Some, refl, ap, subst, inl, inr, arith}
use Rattle.calculus.specs.Lists.{at}
use Rattle.calculus.specs.Terms.{Term, unit, variable, abstraction, coroutine, application, yield, start, resume, snapshot, fix, atom, operation, instance, resumption, suspension}
use Rattle.calculus.specs.Parts.{parts}
use Rattle.calculus.specs.Occurrences.{Position, ResumptionAt}
use Rattle.calculus.specs.Frames.{Frame, application_left, application_right, yield_frame, start_left, start_right, resume_first, resume_second, resume_third, resume_fourth, snapshot_frame, fix_frame, operation_left, operation_right, plug}
use Rattle.calculus.specs.Shape.{Plain, Beside}
use Rattle.calculus.proofs.Occurrences.{in_part}
use Rattle.calculus.proofs.PathFrames.{number, part_plug}

abbrev AllPlain : List Term → Type 0
AllPlain [] = Unit {0}
AllPlain (t ∷ ts) = Plain t × AllPlain ts

-- all but the one of that number are plain
abbrev pub AllBut : ℕ → List Term → Type 0
AllBut n [] = Unit {0}
AllBut zero (t ∷ ts) = AllPlain ts
AllBut (suc n) (t ∷ ts) = Plain t × AllBut n ts

plain_is : {t u : Term} → t ≡ u → Plain t → Plain u
plain_is e h = let P : Term → Type 0 = Plain in subst P e h

plain_one : (ts : List Term) (k : ℕ) (u : Term) → AllPlain ts → at ts k ≡ Some u → Plain u
plain_one [] k u h e = let z : ◌≡◌ {A = ℕ} 0 1 = cc in absurd (omega arith)
plain_one (t ∷ ts) zero u h e = let z : t ≡ u = cc in plain_is z h.0
plain_one (t ∷ ts) (suc k) u h e = plain_one ts k u h.1 e

pub plain_but : (n : ℕ) (ts : List Term) (k : ℕ) (u : Term) → AllBut n ts → at ts k ≡ Some u → (k ≡ n) ⊎ Plain u
plain_but n [] k u h e = let z : ◌≡◌ {A = ℕ} 0 1 = cc in absurd (omega arith)
plain_but zero (t ∷ ts) zero u h e = inl refl
plain_but zero (t ∷ ts) (suc k) u h e = inr (plain_one ts k u h e)
plain_but (suc n) (t ∷ ts) zero u h e = let z : t ≡ u = cc in inr (plain_is z h.0)
plain_but (suc n) (t ∷ ts) (suc k) u h e = elim (plain_but n ts k u h.1 e) [ inl q ↦ inl (ap suc q) | inr p ↦ inr p ]

plain_parts : (t : Term) → Plain t → AllPlain (parts t)
plain_parts unit p = tt
plain_parts (variable n) p = tt
plain_parts (abstraction x r b) p = (p, tt)
plain_parts (coroutine x r b) p = (p, tt)
plain_parts (application f a) p = (p.0, (p.1, tt))
plain_parts (yield t) p = (p, tt)
plain_parts (start i f a) p = (p.0, (p.1, tt))
plain_parts (resume a b c d) p = (p.0, (p.1, (p.2, (p.3, tt))))
plain_parts (snapshot t) p = (p, tt)
plain_parts (fix t) p = (p, tt)
plain_parts (atom k q) p = tt
plain_parts (operation o a b) p = (p.0, (p.1, tt))
plain_parts (instance l r) p = tt
plain_parts (resumption l a b c d) p = absurd p
plain_parts (suspension t v) p = absurd p

beside_parts : (F : Frame) (t : Term) → Beside F → AllBut (number F) (parts (plug F t))
beside_parts (application_left a) t s = (s, tt)
beside_parts (application_right f) t s = (s, tt)
beside_parts yield_frame t s = tt
beside_parts (start_left i a) t s = (s, tt)
beside_parts (start_right i f) t s = (s, tt)
beside_parts (resume_first b c d) t s = (s.0, (s.1, (s.2, tt)))
beside_parts (resume_second a c d) t s = (s.0, (s.1, (s.2, tt)))
beside_parts (resume_third a b d) t s = (s.0, (s.1, (s.2, tt)))
beside_parts (resume_fourth a b c) t s = (s.0, (s.1, (s.2, tt)))
beside_parts snapshot_frame t s = tt
beside_parts fix_frame t s = tt
beside_parts (operation_left o b) t s = (s, tt)
beside_parts (operation_right o a) t s = (s, tt)

pub no_resumption : (F : Frame) (t : Term) {l : ℕ} {a b c d : Term} → plug F t ≡ resumption l a b c d → ⊥
no_resumption (application_left a) t e = let z : ◌≡◌ {A = ℕ} 0 1 = cc in omega arith
no_resumption (application_right f) t e = let z : ◌≡◌ {A = ℕ} 0 1 = cc in omega arith
no_resumption yield_frame t e = let z : ◌≡◌ {A = ℕ} 0 1 = cc in omega arith
no_resumption (start_left i a) t e = let z : ◌≡◌ {A = ℕ} 0 1 = cc in omega arith
no_resumption (start_right i f) t e = let z : ◌≡◌ {A = ℕ} 0 1 = cc in omega arith
no_resumption (resume_first b c d) t e = let z : ◌≡◌ {A = ℕ} 0 1 = cc in omega arith
no_resumption (resume_second a c d) t e = let z : ◌≡◌ {A = ℕ} 0 1 = cc in omega arith
no_resumption (resume_third a b d) t e = let z : ◌≡◌ {A = ℕ} 0 1 = cc in omega arith
no_resumption (resume_fourth a b c) t e = let z : ◌≡◌ {A = ℕ} 0 1 = cc in omega arith
no_resumption snapshot_frame t e = let z : ◌≡◌ {A = ℕ} 0 1 = cc in omega arith
no_resumption fix_frame t e = let z : ◌≡◌ {A = ℕ} 0 1 = cc in omega arith
no_resumption (operation_left o b) t e = let z : ◌≡◌ {A = ℕ} 0 1 = cc in omega arith
no_resumption (operation_right o a) t e = let z : ◌≡◌ {A = ℕ} 0 1 = cc in omega arith

pub below : {t : Term} {k l : ℕ} {q : Position} → ResumptionAt t (k ∷ q) l → (u : Term) × (at (parts t) k ≡ Some u) × ResumptionAt u q l
below {t} {k} {l} {q} r =
    let i = in_part t k q (resumption l r.body r.of_result r.of_yield r.of_neither) r.stands in
    (i.0, i.1, record { body = r.body; of_result = r.of_result; of_yield = r.of_yield; of_neither = r.of_neither; stands = i.2 })

pub plain_none : (p : Position) (t : Term) {l : ℕ} → Plain t → ResumptionAt t p l → ⊥
plain_none [] t {l} h r =
    let e = r.stands in let z : t ≡ resumption l r.body r.of_result r.of_yield r.of_neither = cc in plain_is z h
plain_none (k ∷ p) t h r = let b = below r in plain_none p b.0 (plain_one (parts t) k b.0 (plain_parts t h) b.1) b.2

pub suspended_none : (p : Position) (t v : Term) {l : ℕ} → Plain t → Plain v → ResumptionAt (suspension t v) p l → ⊥
suspended_none [] t v h g r = let e = r.stands in let z : ◌≡◌ {A = ℕ} 0 1 = cc in omega arith
suspended_none (k ∷ p) t v h g r = let b = below r in plain_none p b.0 (plain_one (t ∷ v ∷ []) k b.0 (h, (g, tt)) b.1) b.2

pub plug_none : (F : Frame) (t : Term) {l : ℕ} → ResumptionAt (plug F t) [] l → ⊥
plug_none F t {l} r =
    let e = r.stands in
    let z : plug F t ≡ resumption l r.body r.of_result r.of_yield r.of_neither = cc in no_resumption F t z

-- where all beside a part is plain, an occurrence below the root is one in that part
pub in_the_one : (n : ℕ) (w t : Term) {k l : ℕ} {q : Position} → at (parts w) n ≡ Some t → AllBut n (parts w) → ResumptionAt w (k ∷ q) l →
    (k ≡ n) × ResumptionAt t q l
in_the_one n w t {k} {l} {q} e h r = let b = below r in go b.0 b.1 b.2 (plain_but n (parts w) k b.0 h b.1)
  where
    go : (u : Term) → at (parts w) k ≡ Some u → ResumptionAt u q l → (k ≡ n) ⊎ Plain u → (k ≡ n) × ResumptionAt t q l
    go u f s (inl z) = let y : u ≡ t = cc in (z, subst (λ x. ResumptionAt x q l) y s)
    go u f s (inr p) = absurd (plain_none q u p s)

pub in_the_hole : (F : Frame) (t : Term) {k l : ℕ} {q : Position} → Beside F → ResumptionAt (plug F t) (k ∷ q) l →
    (k ≡ number F) × ResumptionAt t q l
in_the_hole F t s r = in_the_one (number F) (plug F t) t (part_plug F t) (beside_parts F t s) r
