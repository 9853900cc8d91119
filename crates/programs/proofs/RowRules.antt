-- A row's word and a row's rule: a word that keeps the rule is that of a row which may have the number.
use Rattle.std.proofs.Common.{◌≡◌, ℕ, suc, ◌+◌, ◌<◌, ◌≤◌, true, ltb, leb, Some, None, Option, sym, refl, ap, ◌∙◌, arith}
use Rattle.std.proofs.lemmas.Bool.{and_parts, and_from, eqb-true, ltb-true, lt-ltb, leb-true, le-leb}
use Rattle.calculus.specs.Rows.{Row, unit_type, bottom_type, base_type, function_type, coroutine_type, instance_type, Before, Compound}
use Rattle.layout.specs.declared.Word.{Word}
use Rattle.layout.specs.declared.Word.TheVariants as W
use Rattle.layout.specs.Layout.{fields_of, fit, word_of, read_word}
use Rattle.layout.proofs.Exact.{read_exact}
use Rattle.programs.specs.Tables.{row_word, RowFits}
use Rattle.programs.specs.Rows.{as_row, may_stand, row_may_stand, word_may_stand, row_rule}
use Rattle.programs.proofs.Impossible.{never, none}

-- a word that is a row is that row's word
as_row_is : (x : Word) (r : Row) → as_row x ≡ Some r → x ≡ row_word r
as_row_is W.Unit r e = none e
as_row_is (W.Variable n) r e = none e
as_row_is (W.Abstraction n s) r e = none e
as_row_is (W.Coroutine n s) r e = none e
as_row_is W.Application r e = none e
as_row_is W.Yield r e = none e
as_row_is (W.Start s) r e = none e
as_row_is W.Resume r e = none e
as_row_is W.Snapshot r e = none e
as_row_is W.Fix r e = none e
as_row_is (W.Atom b p) r e = none e
as_row_is (W.Operation n) r e = none e
as_row_is (W.Instance l s) r e = none e
as_row_is (W.Resumption l) r e = none e
as_row_is W.Suspension r e = none e
as_row_is (W.Binding b s) r e = none e
as_row_is W.UnitType r e = let i : unit_type ≡ r = cc in ap row_word i
as_row_is W.BottomType r e = let i : bottom_type ≡ r = cc in ap row_word i
as_row_is (W.BaseType b) r e = let i : base_type b ≡ r = cc in ap row_word i
as_row_is (W.FunctionType a b) r e = let i : function_type a b ≡ r = cc in ap row_word i
as_row_is (W.CoroutineType a y b) r e = let i : coroutine_type a y b ≡ r = cc in ap row_word i
as_row_is (W.InstanceType y b) r e = let i : instance_type y b ≡ r = cc in ap row_word i
as_row_is (W.ProgramHead s t) r e = none e
as_row_is (W.ImageHead u b) r e = none e

row_again : (r : Row) → as_row (row_word r) ≡ Some r
row_again unit_type = refl
row_again bottom_type = refl
row_again (base_type k) = refl
row_again (function_type a b) = refl
row_again (coroutine_type a y b) = refl
row_again (instance_type y b) = refl

-- a row's word is read as that row
pub row_reads : (r : Row) → RowFits r → read_word (word_of (row_word r)) ≡ Some (row_word r)
row_reads r f = (read_exact (word_of (row_word r)) (row_word r)).0 (record { fits = f; is = refl })

pub row_once : (r s : Row) → RowFits r → RowFits s → word_of (row_word r) ≡ word_of (row_word s) → r ≡ s
row_once r s f g e =
    let h : Some (row_word r) ≡ Some (row_word s) = sym (row_reads r f) ∙ ap read_word e ∙ row_reads s g in
    let i : row_word r ≡ row_word s = cc in
    let j : Some r ≡ Some s = sym (row_again r) ∙ ap as_row i ∙ row_again s in cc

-- a word keeps the rule of row r exactly if it is that of a row which may stand there
pub record RowOf (K r w : ℕ) : Type 0 where
  pub ty : Row
  pub is : w ≡ word_of (row_word ty)
  pub fits : RowFits ty
  pub stand : may_stand K r ty ≡ true

row_of_word : (K r w : ℕ) (x : Word) (p : Option Row) → read_word w ≡ Some x → as_row x ≡ p → row_may_stand K r p ≡ true → RowOf K r w
row_of_word K r w x None e f h = never h
row_of_word K r w x (Some ty) e f h =
    let d = (read_exact w x).1 e in
    let i = as_row_is x ty f in
    record { ty = ty; is = d.is ∙ ap word_of i; fits = ap (λ y. fit (fields_of y)) (sym i) ∙ d.fits; stand = h }

row_of_read : (K r w : ℕ) (o : Option Word) → read_word w ≡ o → word_may_stand K r o ≡ true → RowOf K r w
row_of_read K r w None e h = never h
row_of_read K r w (Some x) e h = row_of_word K r w x (as_row x) e refl h

pub row_of : (K r w : ℕ) → row_rule K r w ≡ true → RowOf K r w
row_of K r w h = row_of_read K r w (read_word w) refl h

pub row_rule_is : (K r : ℕ) (ty : Row) → RowFits ty → row_rule K r (word_of (row_word ty)) ≡ may_stand K r ty
row_rule_is K r ty f = ap (word_may_stand K r) (row_reads ty f) ∙ ap (row_may_stand K r) (row_again ty)

-- what it is that a row may have its number
abbrev pub Standing : ℕ → ℕ → Row → Type 0
Standing K r unit_type = r ≡ 0
Standing K r bottom_type = r ≡ 1
Standing K r (base_type k) = (k < K) × (r ≡ k + 2)
Standing K r (function_type a b) = (K + 2 ≤ r) × (a < r) × (b < r)
Standing K r (coroutine_type a y b) = (K + 2 ≤ r) × (a < r) × (y < r) × (b < r)
Standing K r (instance_type y b) = (K + 2 ≤ r) × (y < r) × (b < r)

pub stands : (K r : ℕ) (ty : Row) → may_stand K r ty ≡ true → Standing K r ty
stands K r unit_type h = eqb-true r 0 h
stands K r bottom_type h = eqb-true r 1 h
stands K r (base_type k) h = let p = and_parts (ltb k K) _ h in (ltb-true k K p.0, eqb-true r (k + 2) p.1)
stands K r (function_type a b) h =
    let p = and_parts (leb (K + 2) r) _ h in
    let q = and_parts (ltb a r) _ p.1 in (leb-true (K + 2) r p.0, ltb-true a r q.0, ltb-true b r q.1)
stands K r (coroutine_type a y b) h =
    let p = and_parts (leb (K + 2) r) _ h in
    let q = and_parts (ltb a r) _ p.1 in
    let s = and_parts (ltb y r) _ q.1 in
    (leb-true (K + 2) r p.0, ltb-true a r q.0, ltb-true y r s.0, ltb-true b r s.1)
stands K r (instance_type y b) h =
    let p = and_parts (leb (K + 2) r) _ h in
    let q = and_parts (ltb y r) _ p.1 in (leb-true (K + 2) r p.0, ltb-true y r q.0, ltb-true b r q.1)

pub standing_first : (K : ℕ) (ty : Row) → Standing K 0 ty → ty ≡ unit_type
standing_first K unit_type h = refl
standing_first K bottom_type h = absurd (omega arith)
standing_first K (base_type k) h = absurd (omega (arith, h.1))
standing_first K (function_type a b) h = absurd (omega (arith, h.0))
standing_first K (coroutine_type a y b) h = absurd (omega (arith, h.0))
standing_first K (instance_type y b) h = absurd (omega (arith, h.0))

pub standing_second : (K : ℕ) (ty : Row) → Standing K 1 ty → ty ≡ bottom_type
standing_second K unit_type h = absurd (omega arith)
standing_second K bottom_type h = refl
standing_second K (base_type k) h = absurd (omega (arith, h.1))
standing_second K (function_type a b) h = absurd (omega (arith, h.0))
standing_second K (coroutine_type a y b) h = absurd (omega (arith, h.0))
standing_second K (instance_type y b) h = absurd (omega (arith, h.0))

pub standing_base : (K k : ℕ) (ty : Row) → k < K → Standing K (suc (suc k)) ty → ty ≡ base_type k
standing_base K k unit_type l h = absurd (omega arith)
standing_base K k bottom_type l h = absurd (omega arith)
standing_base K k (base_type j) l h = let e : j ≡ k = omega (arith, h.1) in ap base_type e
standing_base K k (function_type a b) l h = absurd (omega (arith, h.0))
standing_base K k (coroutine_type a y b) l h = absurd (omega (arith, h.0))
standing_base K k (instance_type y b) l h = absurd (omega (arith, h.0))

pub standing_later : (K r : ℕ) (ty : Row) → suc (suc K) ≤ r → Standing K r ty → Compound ty
standing_later K r unit_type l h = omega arith
standing_later K r bottom_type l h = omega arith
standing_later K r (base_type j) l h = omega (arith, h.0, h.1)
standing_later K r (function_type a b) l h = tt
standing_later K r (coroutine_type a y b) l h = tt
standing_later K r (instance_type y b) l h = tt

pub standing_before : (K r : ℕ) (ty : Row) → Standing K r ty → Before r ty
standing_before K r unit_type h = tt
standing_before K r bottom_type h = tt
standing_before K r (base_type j) h = tt
standing_before K r (function_type a b) h = (h.1, h.2)
standing_before K r (coroutine_type a y b) h = (h.1, h.2, h.3)
standing_before K r (instance_type y b) h = (h.1, h.2)

pub later_stands : (K r : ℕ) (ty : Row) → suc (suc K) ≤ r → Compound ty → Before r ty → may_stand K r ty ≡ true
later_stands K r unit_type l c b = absurd c
later_stands K r bottom_type l c b = absurd c
later_stands K r (base_type j) l c b = absurd c
later_stands K r (function_type x y) l c b =
    and_from (leb (K + 2) r) _ (le-leb (K + 2) r (omega arith)) (and_from (ltb x r) _ (lt-ltb x r b.0) (lt-ltb y r b.1))
later_stands K r (coroutine_type x y z) l c b =
    and_from (leb (K + 2) r) _ (le-leb (K + 2) r (omega arith))
    (and_from (ltb x r) _ (lt-ltb x r b.0) (and_from (ltb y r) _ (lt-ltb y r b.1) (lt-ltb z r b.2)))
later_stands K r (instance_type x y) l c b =
    and_from (leb (K + 2) r) _ (le-leb (K + 2) r (omega arith)) (and_from (ltb x r) _ (lt-ltb x r b.0) (lt-ltb y r b.1))
