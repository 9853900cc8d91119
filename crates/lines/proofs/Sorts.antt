-- The sorts of terms: by their kinds, by what a line looks for at a part, and by whether they are values or suspensions.
use Rattle.std.proofs.Common.{◌≡◌, ℕ, Bool, true, false, ◌||◌, eqb, sym, refl, ap, ◌∙◌, arith}
use Rattle.calculus.specs.Terms.{Term, unit, variable, abstraction, coroutine, application, yield, start, resume, snapshot, fix, atom, operation, instance, resumption, suspension, is_value, is_suspension}
use Rattle.calculus.specs.Views.{is_other, view}
use Rattle.words.specs.Kinds.{number_of}
use Rattle.layout.specs.Layout.{kind_of}
use Rattle.encoding.specs.Encoding.{first_word}

-- the number of a term's kind
abbrev pub kind_of_term : Term → ℕ
kind_of_term t = number_of (kind_of (first_word t))

-- a term is a value, a suspension, or neither
pub data Sort (t : Term) : Type 0 where
  a_value : is_value t ≡ true → Sort t
  a_suspension : (u v : Term) → t ≡ suspension u v → Sort t
  active : is_value t ≡ false → is_suspension t ≡ false → view t ≡ is_other → Sort t

pub sort : (t : Term) → Sort t
sort unit = a_value refl
sort (variable x) = active refl refl refl
sort (abstraction x r b) = a_value refl
sort (coroutine x r b) = a_value refl
sort (application f a) = active refl refl refl
sort (yield a) = active refl refl refl
sort (start r f a) = active refl refl refl
sort (resume a b c d) = active refl refl refl
sort (snapshot a) = active refl refl refl
sort (fix a) = active refl refl refl
sort (atom k p) = a_value refl
sort (operation o a b) = active refl refl refl
sort (instance l r) = a_value refl
sort (resumption l a b c d) = active refl refl refl
sort (suspension t v) = a_suspension t v refl

-- the kinds that a line looks for at a part: abstraction, coroutine, atom, instance
abbrev pub looked_for : ℕ → Bool
looked_for k = (eqb k 2 || eqb k 3) || (eqb k 10 || eqb k 12)

-- a term of another kind, and no suspension
pub record Plain (t : Term) : Type 0 where
  pub shows : view t ≡ is_other
  pub binds : (eqb (kind_of_term t) 2 || eqb (kind_of_term t) 3) ≡ false
  pub other : looked_for (kind_of_term t) ≡ false

pub plain_not : {A : Type 0} {t : Term} → Plain t → (k : ℕ) → looked_for k ≡ true → kind_of_term t ≡ k → A
plain_not p k h e =
    let y : false ≡ true = sym p.other ∙ ap looked_for e ∙ h in let z : ◌≡◌ {A = ℕ} 0 1 = cc in absurd (omega arith)

-- what a line looks for at a part
pub data Viewed : Term → Type 0 where
  seen_abstraction : (x r : ℕ) (b : Term) → Viewed (abstraction x r b)
  seen_coroutine : (x r : ℕ) (b : Term) → Viewed (coroutine x r b)
  seen_instance : (l r : ℕ) → Viewed (instance l r)
  seen_atom : (k p : ℕ) → Viewed (atom k p)
  seen_suspension : (t v : Term) → Viewed (suspension t v)
  seen_other : (t : Term) → Plain t → Viewed t

pub viewed : (t : Term) → Viewed t
viewed unit = seen_other unit (record { shows = refl; binds = refl; other = refl })
viewed (variable x) = seen_other (variable x) (record { shows = refl; binds = refl; other = refl })
viewed (abstraction x r b) = seen_abstraction x r b
viewed (coroutine x r b) = seen_coroutine x r b
viewed (application f a) = seen_other (application f a) (record { shows = refl; binds = refl; other = refl })
viewed (yield a) = seen_other (yield a) (record { shows = refl; binds = refl; other = refl })
viewed (start r f a) = seen_other (start r f a) (record { shows = refl; binds = refl; other = refl })
viewed (resume a b c d) = seen_other (resume a b c d) (record { shows = refl; binds = refl; other = refl })
viewed (snapshot a) = seen_other (snapshot a) (record { shows = refl; binds = refl; other = refl })
viewed (fix a) = seen_other (fix a) (record { shows = refl; binds = refl; other = refl })
viewed (atom k p) = seen_atom k p
viewed (operation o a b) = seen_other (operation o a b) (record { shows = refl; binds = refl; other = refl })
viewed (instance l r) = seen_instance l r
viewed (resumption l a b c d) = seen_other (resumption l a b c d) (record { shows = refl; binds = refl; other = refl })
viewed (suspension t v) = seen_suspension t v
