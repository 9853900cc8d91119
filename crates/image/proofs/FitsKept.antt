-- A step keeps the fields within their bits, wherever its successor has no more bindings than labels.
use Rattle.std.proofs.Common.{◌≡◌, ℕ, zero, suc, ◌^◌, ◌<◌, ◌≤◌, Bool, true, false, cond, ◌&&◌, eqb, ltb, [], ◌∷◌, ◌++◌, length, Some, refl, subst, arith, length-append}
use Rattle.std.specs.List.{AllByRecursion}
use Rattle.std.proofs.ByRecursion.{All-append}
use Rattle.std.proofs.lemmas.Bool.{and_parts, and_from, lt-ltb}
use Rattle.quantities.specs.declared.Signature.{Signature}
use Rattle.quantities.specs.Meaning.{Meaning, StatedAt, ClosedAt, Lawful as Law}
use Rattle.calculus.specs.Lists.{at, put}
use Rattle.calculus.specs.Terms.{Term, unit, variable, abstraction, coroutine, application, yield, start, resume, snapshot, fix, atom, operation, instance, resumption, suspension}
use Rattle.calculus.specs.Replacement.{replace}
use Rattle.calculus.specs.Configurations.{Binding, empty, ready, row_of, Bindings}
use Rattle.calculus.specs.Frames.{Frame, application_left, application_right, yield_frame, start_left, start_right, resume_first, resume_second, resume_third, resume_fourth, snapshot_frame, fix_frame, operation_left, operation_right, plug}
use Rattle.calculus.specs.Lines.{e_pause, e_apply, e_apply_coroutine, e_fix, e_yield, e_start, e_resume_ready, e_resume_empty, e_capture, e_terminate, e_snapshot, e_operate}
use Rattle.calculus.specs.Steps.{Step, line, e_context, e_executing}
use Rattle.encoding.specs.Encoding.{FirstFits, Fits}
use Rattle.image.specs.Images.{BindingFits, most_bindings}

fits_cond : (b : Bool) (t u : Term) → Fits t → Fits u → Fits (cond b t u)
fits_cond true t u f g = f
fits_cond false t u f g = g

module _ (x : ℕ) (s : Term) (g : Fits s) where
  pub fits_replace : (t : Term) → Fits t → Fits (replace x s t)
  fits_replace unit f = f
  fits_replace (variable y) f = fits_cond (eqb y x) s (variable y) g f
  fits_replace (abstraction y r b) f = (f.0, fits_cond (eqb y x) b (replace x s b) f.1 (fits_replace b f.1))
  fits_replace (coroutine y r b) f = (f.0, fits_cond (eqb y x) b (replace x s b) f.1 (fits_replace b f.1))
  fits_replace (application h a) f = (f.0, fits_replace h f.1, fits_replace a f.2)
  fits_replace (yield t) f = (f.0, fits_replace t f.1)
  fits_replace (start i h a) f = (f.0, fits_replace h f.1, fits_replace a f.2)
  fits_replace (resume a b c d) f =
      (f.0, fits_replace a f.1, fits_replace b f.2, fits_replace c f.3, fits_replace d f.4)
  fits_replace (snapshot t) f = (f.0, fits_replace t f.1)
  fits_replace (fix t) f = (f.0, fits_replace t f.1)
  fits_replace (atom k p) f = f
  fits_replace (operation o a b) f = (f.0, fits_replace a f.1, fits_replace b f.2)
  fits_replace (instance l r) f = f
  fits_replace (resumption l a b c d) f =
      (f.0, fits_replace a f.1, fits_replace b f.2, fits_replace c f.3, fits_replace d f.4)
  fits_replace (suspension t v) f = (f.0, fits_replace t f.1, fits_replace v f.2)

-- the part in a frame
pub fits_part : (F : Frame) (t : Term) → Fits (plug F t) → Fits t
fits_part (application_left a) t f = f.1
fits_part (application_right h) t f = f.2
fits_part yield_frame t f = f.1
fits_part (start_left i a) t f = f.1
fits_part (start_right i h) t f = f.2
fits_part (resume_first b c d) t f = f.1
fits_part (resume_second a c d) t f = f.2
fits_part (resume_third a b d) t f = f.3
fits_part (resume_fourth a b c) t f = f.4
fits_part snapshot_frame t f = f.1
fits_part fix_frame t f = f.1
fits_part (operation_left o b) t f = f.1
fits_part (operation_right o a) t f = f.2

-- another part in the frame
pub fits_plug : (F : Frame) (t u : Term) → Fits (plug F t) → Fits u → Fits (plug F u)
fits_plug (application_left a) t u f g = (f.0, g, f.2)
fits_plug (application_right h) t u f g = (f.0, f.1, g)
fits_plug yield_frame t u f g = (f.0, g)
fits_plug (start_left i a) t u f g = (f.0, g, f.2)
fits_plug (start_right i h) t u f g = (f.0, f.1, g)
fits_plug (resume_first b c d) t u f g = (f.0, g, f.2, f.3, f.4)
fits_plug (resume_second a c d) t u f g = (f.0, f.1, g, f.3, f.4)
fits_plug (resume_third a b d) t u f g = (f.0, f.1, f.2, g, f.4)
fits_plug (resume_fourth a b c) t u f g = (f.0, f.1, f.2, f.3, g)
fits_plug snapshot_frame t u f g = (f.0, g)
fits_plug fix_frame t u f g = (f.0, g)
fits_plug (operation_left o b) t u f g = (f.0, g, f.2)
fits_plug (operation_right o a) t u f g = (f.0, f.1, g)

-- the binding of a label
pub binding_fits : (μ : Bindings) (l : ℕ) (β : Binding) → AllByRecursion BindingFits μ → at μ l ≡ Some β → BindingFits β
binding_fits [] l β a e = let z : ◌≡◌ {A = ℕ} 0 1 = cc in absurd (omega arith)
binding_fits (α ∷ μ) zero β a e = let z : α ≡ β = cc in subst BindingFits z a.0
binding_fits (α ∷ μ) (suc l) β a e = binding_fits μ l β a.1 e

put_fits : (μ : Bindings) (l : ℕ) (γ : Binding) → AllByRecursion BindingFits μ → BindingFits γ → AllByRecursion BindingFits (put μ l γ)
put_fits [] l γ a g = tt
put_fits (α ∷ μ) zero γ a g = (g, a.1)
put_fits (α ∷ μ) (suc l) γ a g = (a.0, put_fits μ l γ a.1 g)

-- a row that fits its bits
abbrev RowFits : ℕ → Type 0
RowFits r = (ltb r 512 && true) ≡ true

row_fits : (β : Binding) → BindingFits β → RowFits (row_of β)
row_fits (empty r) f = f
row_fits (ready r t) f = f.0

-- a new instance with a label below 4,096
instance_fits : (l r : ℕ) → l < 4096 → RowFits r → FirstFits (instance l r)
instance_fits l r h f = and_from (ltb l 4096) (ltb r 512 && true) (lt-ltb l 4096 h) f

-- the label of an instance fits a resumption
label_fits : (l r : ℕ) (a b c d : Term) → FirstFits (instance l r) → FirstFits (resumption l a b c d)
label_fits l r a b c d f = and_from (ltb l 4096) true (and_parts (ltb l 4096) (ltb r 512 && true) f).0 refl

atom_fits : (k p : ℕ) → k < 8 → p < 2 ^ 24 → FirstFits (atom k p)
atom_fits k p h g = and_from (ltb p (2 ^ 24)) (ltb k 8 && true) (lt-ltb p (2 ^ 24) g) (and_from (ltb k 8) true (lt-ltb k 8 h) refl)

-- what a step makes of them
pub record After (t : Term) (μ : Bindings) : Type 0 where
  pub term : Fits t
  pub bindings : AllByRecursion BindingFits μ

stays : {t : Term} {μ : Bindings} → AllByRecursion BindingFits μ → Fits t → After t μ
stays a f = record { term = f; bindings = a }

-- a binding is added
adds : (μ : Bindings) (γ : Binding) (r : ℕ) → length (μ ++ γ ∷ []) ≤ most_bindings → AllByRecursion BindingFits μ → BindingFits γ → RowFits r →
    After (instance (length μ) r) (μ ++ γ ∷ [])
adds μ γ r few a g f = record {
  term = instance_fits (length μ) r (omega (arith, length-append μ (γ ∷ []))) f;
  bindings = All-append BindingFits μ (γ ∷ []) a (g, tt);
}

module _ {Q : Meaning} (law : Law Q) where
  result_fits : (o p q : ℕ) (s : Signature) → Q.signature o ≡ Some s → Q.holds s.first p ≡ true → Q.holds s.second q ≡ true →
      FirstFits (atom s.result (Q.result o p q))
  result_fits o p q s e h g =
      let c : ClosedAt Q o (Some s) = subst (ClosedAt Q o) e (law.closed o) in
      let t : StatedAt Q (Some s) = subst (StatedAt Q) e (law.stated o) in
      let few = law.few.1 in
      atom_fits s.result (Q.result o p q) (omega (arith, t.2)) (c p q h g).1

  pub fits_kept : {t t' : Term} {μ μ' : Bindings} → Step Q t μ t' μ' → length μ' ≤ most_bindings → Fits t → AllByRecursion BindingFits μ → After t' μ'
  fits_kept (e_context F {t = t} {t' = t'} p s) few f a =
      let k = fits_kept s few (fits_part F t f) a in record { term = fits_plug F t t' f k.term; bindings = k.bindings }
  fits_kept (e_executing s) few f a =
      let k = fits_kept s few f.1 a in record { term = (f.0, k.term, f.2, f.3, f.4); bindings = k.bindings }
  fits_kept (line (e_pause F t v p)) few f a =
      let s = fits_part F (suspension t v) f in stays a (refl, fits_plug F (suspension t v) t f s.1, s.2)
  fits_kept (line (e_apply {x = x} {b = b} {v = v} h)) few f a = stays a (fits_replace x v f.2 b f.1.1)
  fits_kept (line (e_apply_coroutine {x = x} {b = b} {v = v} h)) few f a = stays a (fits_replace x v f.2 b f.1.1)
  fits_kept (line (e_fix {x = x} {r = r} {b = b})) few f a = stays a (fits_replace x (fix (abstraction x r b)) f b f.1.1)
  fits_kept (line (e_yield h)) few f a = stays a (refl, refl, f.1)
  fits_kept (line (e_start {i = i} {x = x} {b = b} {v = v} {μ = μ} h)) few f a =
      adds μ (ready i (replace x v b)) i few a (f.0, fits_replace x v f.2 b f.1.1) f.0
  fits_kept (line (e_resume_ready {l = l} {r = r} {i = i} {t = t} {b = b} {c = c} {d = d} {μ = μ} hb hc hd e)) few f a =
      let β = binding_fits μ l (ready i t) a e in
      record { term = (label_fits l r t b c d f.1, β.1, f.2, f.3, f.4); bindings = put_fits μ l (empty i) a β.0 }
  fits_kept (line (e_resume_empty hb hc hd e)) few f a = stays a (refl, f.4, refl)
  fits_kept (line (e_capture {l = l} {i = i} {t = t} {μ = μ} e)) few f a =
      let β = binding_fits μ l (empty i) a e in let s = f.1 in
      record { term = (refl, f.3, s.2); bindings = put_fits μ l (ready i t) a (β, s.1) }
  fits_kept (line (e_terminate h e)) few f a = stays a (refl, f.2, f.1)
  fits_kept (line (e_snapshot {l = l} {β = β} {μ = μ} e)) few f a =
      let b = binding_fits μ l β a e in adds μ β (row_of β) few a b (row_fits β b)
  fits_kept (line (e_operate {o = o} {p = p} {q = q} {s = s} e h g)) few f a = stays a (result_fits o p q s e h g)
