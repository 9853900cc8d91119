-- In a configuration of good shape the resumptions occur on the path only, each label once.
use Rattle.std.proofs.Common.{◌≡◌, ℕ, zero, suc, false, List, [], ◌∷◌, Some, refl, ap, ◌∙◌, arith}
use Rattle.calculus.specs.Lists.{at}
use Rattle.calculus.specs.Terms.{Term, resumption, is_value, is_suspension}
use Rattle.calculus.specs.Occurrences.{Position, ResumptionAt}
use Rattle.calculus.specs.Configurations.{empty, Bindings}
use Rattle.calculus.specs.Frames.{Frame, plug, Proper}
use Rattle.calculus.specs.Places.{OnThePath}
use Rattle.calculus.specs.Shape.{Active, p_plain, p_suspended, p_through, p_executing, Apart, Distinct, Empties}
use Rattle.calculus.specs.StatementsOfPlaces.{EveryResumptionOnPath}
use Rattle.calculus.proofs.StepIsNext.{plug_quiet}
use Rattle.calculus.proofs.PathFrames.{number, path_plug}
use Rattle.calculus.proofs.StepAtPath.{no_suspension}
use Rattle.calculus.proofs.PlainParts.{plain_none, suspended_none, plug_none, in_the_one, in_the_hole}

-- positions in part k
abbrev in_part_of : ℕ → List Position → List Position
in_part_of k [] = []
in_part_of k (p ∷ ps) = (k ∷ p) ∷ in_part_of k ps

at_in_part : (k : ℕ) (ps : List Position) (n : ℕ) (p : Position) → at ps n ≡ Some p → at (in_part_of k ps) n ≡ Some (k ∷ p)
at_in_part k [] n p e = let z : ◌≡◌ {A = ℕ} 0 1 = cc in absurd (omega arith)
at_in_part k (q ∷ ps) zero p e = cc
at_in_part k (q ∷ ps) (suc n) p e = at_in_part k ps n p e

-- the positions of the resumptions, from outside in
abbrev spots : {t : Term} {ls : List ℕ} → Active t ls → List Position
spots (p_plain h) = []
spots (p_suspended h g v) = []
spots (p_through F p s h) = in_part_of (number F) (spots h)
spots (p_executing v p h) = [] ∷ in_part_of 0 (spots h)

-- what holds a resumption, and is on the path or plain beside it, is entered
entered : {t : Term} {ls : List ℕ} {p : Position} {l : ℕ} → Active t ls → ResumptionAt t p l →
    (is_value t ≡ false) × (is_suspension t ≡ false)
entered {t} {p = p} (p_plain h) r = absurd (plain_none p t h r)
entered {p = p} (p_suspended {t = t} {v = v} h g w) r = absurd (suspended_none p t v h g r)
entered (p_through F {t = t} p s h) r = let k = plug_quiet F t in (k.0, no_suspension (plug F t) k.1)
entered (p_executing v p h) r = (refl, refl)

-- where an occurrence of a resumption stands among the labels and the positions, and that it is on the path
record Found (t : Term) (ls : List ℕ) (ps : List Position) (p : Position) (l : ℕ) : Type 0 where
  index : ℕ
  label_is : at ls index ≡ Some l
  spot_is : at ps index ≡ Some p
  on_path : OnThePath t p

found_in_hole : (F : Frame) (t : Term) {ls : List ℕ} {ps : List Position} {k : ℕ} {q : Position} {l : ℕ} → Proper F →
    (is_value t ≡ false) × (is_suspension t ≡ false) → k ≡ number F → Found t ls ps q l →
    Found (plug F t) ls (in_part_of (number F) ps) (k ∷ q) l
found_in_hole F t {ps = ps} {q = q} p n e a = record {
  index = a.index;
  label_is = a.label_is;
  spot_is = rw e (at_in_part (number F) ps a.index q a.spot_is);
  on_path = record { more = a.on_path.more; is = rw e (path_plug F t p n.0 n.1 ∙ ap (λ z. number F ∷ z) a.on_path.is) };
}

found_in_body : {m : ℕ} (t b c d : Term) {ls : List ℕ} {ps : List Position} {k : ℕ} {q : Position} {l : ℕ} →
    (is_value t ≡ false) × (is_suspension t ≡ false) → k ≡ 0 → Found t ls ps q l →
    Found (resumption m t b c d) (m ∷ ls) ([] ∷ in_part_of 0 ps) (k ∷ q) l
found_in_body t b c d {ps = ps} {q = q} n e a = record {
  index = suc a.index;
  label_is = a.label_is;
  spot_is = rw e (at_in_part 0 ps a.index q a.spot_is);
  on_path = record { more = a.on_path.more; is = rw (e, n.0, n.1) (ap (λ z. 0 ∷ z) a.on_path.is) };
}

found : {t : Term} {ls : List ℕ} (h : Active t ls) (p : Position) (l : ℕ) → ResumptionAt t p l → Found t ls (spots h) p l
found {t} (p_plain h) p l r = absurd (plain_none p t h r)
found (p_suspended {t = t} {v = v} h g w) p l r = absurd (suspended_none p t v h g r)
found (p_through F {t = t} p s h) [] l r = absurd (plug_none F t r)
found (p_through F {t = t} p s h) (k ∷ q) l r =
    let i = in_the_hole F t s r in found_in_hole F t p (entered h i.1) i.0 (found h q l i.1)
found (p_executing {l = m} v p h) [] l r =
    let e = r.stands in record { index = 0; label_is = cc; spot_is = refl; on_path = record { more = _; is = refl } }
found (p_executing {l = m} {t = t} {b = b} {c = c} {d = d} v p h) (k ∷ q) l r =
    let i = in_the_one 0 (resumption m t b c d) t refl (p.0, (p.1, (p.2, tt))) r in
    found_in_body t b c d (entered h i.1) i.0 (found h q l i.1)

apart_not : (ls : List ℕ) (n l : ℕ) → Apart l ls → at ls n ≡ Some l → ⊥
apart_not [] n l h e = let z : ◌≡◌ {A = ℕ} 0 1 = cc in omega arith
apart_not (k ∷ ls) zero l h e = h.0 (cc)
apart_not (k ∷ ls) (suc n) l h e = apart_not ls n l h.1 e

one_index : (ls : List ℕ) (m n l : ℕ) → Distinct ls → at ls m ≡ Some l → at ls n ≡ Some l → m ≡ n
one_index [] m n l h e f = let z : ◌≡◌ {A = ℕ} 0 1 = cc in absurd (omega arith)
one_index (k ∷ ls) zero zero l h e f = refl
one_index (k ∷ ls) zero (suc n) l h e f = let z : k ≡ l = cc in absurd (apart_not ls n l (rw z at h.0) f)
one_index (k ∷ ls) (suc m) zero l h e f = let z : k ≡ l = cc in absurd (apart_not ls m l (rw z at h.0) e)
one_index (k ∷ ls) (suc m) (suc n) l h e f = ap suc (one_index ls m n l h.1 e f)

empty_one : (μ : Bindings) (ls : List ℕ) (n l : ℕ) → Empties μ ls → at ls n ≡ Some l → (i : ℕ) × (at μ l ≡ Some (empty i))
empty_one μ [] n l h e = let z : ◌≡◌ {A = ℕ} 0 1 = cc in absurd (omega arith)
empty_one μ (k ∷ ls) zero l h e = let z : k ≡ l = cc in (h.0.0, rw z at h.0.1)
empty_one μ (k ∷ ls) (suc n) l h e = empty_one μ ls n l h.1 e

same_spot : (ps : List Position) (m n : ℕ) (p q : Position) → m ≡ n → at ps m ≡ Some p → at ps n ≡ Some q → p ≡ q
same_spot ps m n p q e f g = cc

pub resumptions_on_path : EveryResumptionOnPath
resumptions_on_path t μ h = record {
  on_path = λ p l r. (found h.active p l r).on_path;
  one_each = λ p q l r s.
      let a = found h.active p l r in let b = found h.active q l s in
      same_spot (spots h.active) a.index b.index p q (one_index h.labels a.index b.index l h.distinct a.label_is
      b.label_is) a.spot_is b.spot_is;
  binding_empty = λ p l r. let a = found h.active p l r in empty_one μ h.labels a.index l h.empties a.label_is;
  not_in_bodies = λ l i b e p k r. plain_none p b (h.bodies.plain l i b e) r;
}
