-- Terms that bind a name, and what the lines give at them.
use Rattle.std.proofs.Common.{◌≡◌, ℕ, suc, true, false, ◌||◌, eqb, List, [], ◌∷◌, ◌++◌, length, Some, None, sym, refl, ap, ◌∙◌, arith}
use Rattle.calculus.specs.Terms.{Term, abstraction, coroutine, fix, instance}
use Rattle.calculus.specs.Parts.{size}
use Rattle.calculus.specs.Replacement.{replace}
use Rattle.calculus.specs.Configurations.{Bindings, ready, ◌∣◌}
use Rattle.calculus.specs.Views.{view}
use Rattle.calculus.specs.Redexes.{applied, fixed, started}
use Rattle.layout.specs.Layout.{word_of}
use Rattle.encoding.specs.Encoding.{first_word, encode, Fits}
use Rattle.image.specs.Reading.{label_at}
use Rattle.writing.specs.Replacing.{replaced}
use Rattle.writing.proofs.ReplacedTerms.{replaced_encode}
use Rattle.lines.proofs.Sorts.{kind_of_term, plain_not, Viewed, seen_abstraction, seen_coroutine, seen_instance, seen_atom, seen_suspension, seen_other}
use Rattle.lines.proofs.Fields.{abstraction_name, coroutine_name}

-- f binds the name x in b
pub record Binder (f : Term) : Type 0 where
  pub x : ℕ
  pub b : Term
  pub name : Fits f → label_at (word_of (first_word f)) ≡ x
  pub words : encode f ≡ word_of (first_word f) ∷ encode b
  pub long : size f ≡ suc (size b)
  pub fits : Fits f → Fits b

abbrev pub of_abstraction : (x r : ℕ) (b : Term) → Binder (abstraction x r b)
of_abstraction x r b =
    record { x = x; b = b; name = λ h. abstraction_name x r b h.0; words = refl; long = refl; fits = λ h. h.1 }

abbrev pub of_coroutine : (x r : ℕ) (b : Term) → Binder (coroutine x r b)
of_coroutine x r b =
    record { x = x; b = b; name = λ h. coroutine_name x r b h.0; words = refl; long = refl; fits = λ h. h.1 }

-- the words of a body with a term for its variable
pub new_body : (x : ℕ) (v b : Term) (y : ℕ) (vs bs : List ℕ) → y ≡ x → vs ≡ encode v → bs ≡ encode b → Fits b →
    replaced y vs 0 bs ≡ encode (replace x v b)
new_body x v b y vs bs e f g h = (λ i. replaced (e i) (f i) 0 (g i)) ∙ replaced_encode x v b h

never : {A : Type 0} → false ≡ true → A
never e = let z : ◌≡◌ {A = ℕ} 0 1 = cc in absurd (omega arith)

-- an abstraction or a coroutine is applied
pub applies : (f : Term) → Viewed f → (eqb (kind_of_term f) 2 || eqb (kind_of_term f) 3) ≡ true →
    (k : Binder f) × ((v : Term) (μ : Bindings) → applied (view f) v μ ≡ Some (replace k.x v k.b ∣ μ))
applies _ (seen_abstraction x r b) e = (of_abstraction x r b, λ v μ. refl)
applies _ (seen_coroutine x r b) e = (of_coroutine x r b, λ v μ. refl)
applies _ (seen_instance l r) e = never e
applies _ (seen_atom k p) e = never e
applies _ (seen_suspension t v) e = never e
applies _ (seen_other t p) e = never (sym p.binds ∙ e)

pub not_applied : (f : Term) → Viewed f → (v : Term) (μ : Bindings) → (eqb (kind_of_term f) 2 || eqb (kind_of_term f) 3) ≡ false →
    applied (view f) v μ ≡ None
not_applied _ (seen_abstraction x r b) v μ e = never (sym e)
not_applied _ (seen_coroutine x r b) v μ e = never (sym e)
not_applied _ (seen_instance l r) v μ e = refl
not_applied _ (seen_atom k p) v μ e = refl
not_applied _ (seen_suspension t w) v μ e = refl
not_applied _ (seen_other t p) v μ e = ap (λ w. applied w v μ) p.shows

-- the fix of an abstraction
pub fixes : (f : Term) → Viewed f → kind_of_term f ≡ 2 →
    (k : Binder f) × ((μ : Bindings) → fixed (view f) μ ≡ Some (replace k.x (fix f) k.b ∣ μ))
fixes _ (seen_abstraction x r b) e = (of_abstraction x r b, λ μ. refl)
fixes _ (seen_coroutine x r b) e = absurd (omega arith)
fixes _ (seen_instance l r) e = absurd (omega arith)
fixes _ (seen_atom k p) e = absurd (omega arith)
fixes _ (seen_suspension t v) e = absurd (omega arith)
fixes _ (seen_other t p) e = plain_not p 2 refl e

pub not_fixed : (f : Term) → Viewed f → (μ : Bindings) → (kind_of_term f ≡ 2 → ⊥) → fixed (view f) μ ≡ None
not_fixed _ (seen_abstraction x r b) μ e = absurd (e refl)
not_fixed _ (seen_coroutine x r b) μ e = refl
not_fixed _ (seen_instance l r) μ e = refl
not_fixed _ (seen_atom k p) μ e = refl
not_fixed _ (seen_suspension t w) μ e = refl
not_fixed _ (seen_other t p) μ e = ap (λ w. fixed w μ) p.shows

-- a coroutine is started
pub starts : (f : Term) → Viewed f → kind_of_term f ≡ 3 →
    (k : Binder f) ×
    ((i : ℕ) (v : Term) (μ : Bindings) →
    started i (view f) v μ ≡ Some (instance (length μ) i ∣ (μ ++ ready i (replace k.x v k.b) ∷ [])))
starts _ (seen_abstraction x r b) e = absurd (omega arith)
starts _ (seen_coroutine x r b) e = (of_coroutine x r b, λ i v μ. refl)
starts _ (seen_instance l r) e = absurd (omega arith)
starts _ (seen_atom k p) e = absurd (omega arith)
starts _ (seen_suspension t v) e = absurd (omega arith)
starts _ (seen_other t p) e = plain_not p 3 refl e

pub not_started : (f : Term) → Viewed f → (i : ℕ) (v : Term) (μ : Bindings) → (kind_of_term f ≡ 3 → ⊥) → started i (view f) v μ ≡ None
not_started _ (seen_abstraction x r b) i v μ e = refl
not_started _ (seen_coroutine x r b) i v μ e = absurd (e refl)
not_started _ (seen_instance l r) i v μ e = refl
not_started _ (seen_atom k p) i v μ e = refl
not_started _ (seen_suspension t w) i v μ e = refl
not_started _ (seen_other t p) i v μ e = ap (λ w. started i w v μ) p.shows
