-- The words of a table stand for it.
use Rattle.std.proofs.Common.{◌≡◌, ℕ, zero, suc, ◌+◌, ◌*◌, ◌/◌, ◌%◌, ◌^◌, ◌<◌, ◌≤◌, Bool, true, cond, ◌&&◌, ltb, List, [], ◌∷◌, length, get_or, Some, None, Option, sym, refl, ap, ◌∙◌, ⊎_elim, arith}
use Rattle.std.proofs.lemmas.Bool.{cases_lt, lt-ltb, le-ltb, and_parts, ltb-true}
use Rattle.layout.specs.Layout.{fields_of, fit, word_of}
use Rattle.rules.specs.declared.model.Shape.{Shape}
use Rattle.rules.specs.declared.model.Shape.TheVariants.{UnitRow, BottomRow, BaseRow, FunctionRow, CoroutineRow, InstanceRow, NoRow}
use Rattle.rules.specs.Table.{shape_of, shape_at}
use Rattle.calculus.specs.Lists.{at}
use Rattle.calculus.specs.Rows.{Row, unit_type, bottom_type, base_type, function_type, coroutine_type, instance_type}
use Rattle.std.specs.List.{AllByRecursion}
use Rattle.programs.specs.Tables.{row_word, table_words, RowFits}

abbrev pub row_of : Shape → Option Row
row_of UnitRow = Some unit_type
row_of BottomRow = Some bottom_type
row_of (BaseRow k) = Some (base_type k)
row_of (FunctionRow a b) = Some (function_type a b)
row_of (CoroutineRow a w b) = Some (coroutine_type a w b)
row_of (InstanceRow w b) = Some (instance_type w b)
row_of NoRow = None

-- the words stand for the table
abbrev pub Means : List ℕ → List Row → Type 0
Means rows table = (r : ℕ) → row_of (shape_at rows r) ≡ at table r

under : (n m : ℕ) (b : Bool) → (ltb n m && b) ≡ true → n < m
under n m b h = ltb-true n m (and_parts (ltb n m) b h).0

rest : (n m : ℕ) (b : Bool) → (ltb n m && b) ≡ true → b ≡ true
rest n m b h = (and_parts (ltb n m) b h).1

-- the kind of a row's word, and the rows that it refers to
record Referring (k a b d w : ℕ) : Type 0 where
  kind : w / 2 ^ 27 ≡ k
  first : w % 2 ^ 9 ≡ a
  second : w / 2 ^ 9 % 2 ^ 9 ≡ b
  third : w / 2 ^ 18 % 2 ^ 9 ≡ d

referring :
    (k a b d w : ℕ) → a < 2 ^ 9 → b < 2 ^ 9 → d < 2 ^ 9 → w ≡ k * 2 ^ 27 + (a + (b * 2 ^ 9 + d * 2 ^ 18)) → Referring k a b d w
referring k a b d w f g h e = record { kind = omega arith; first = omega arith; second = omega arith; third = omega arith }

base_again : (k w : ℕ) → w / 2 ^ 27 ≡ 18 → w % 2 ^ 3 ≡ k → row_of (shape_of w) ≡ Some (base_type k)
base_again k w e f = rw (e, f)

function_again : (a b d w : ℕ) → Referring 19 a b d w → row_of (shape_of w) ≡ Some (function_type a b)
function_again a b d w q = rw (q.kind, q.first, q.second)

coroutine_again : (a b d w : ℕ) → Referring 20 a b d w → row_of (shape_of w) ≡ Some (coroutine_type a b d)
coroutine_again a b d w q = rw (q.kind, q.first, q.second, q.third)

instance_again : (a b d w : ℕ) → Referring 21 a b d w → row_of (shape_of w) ≡ Some (instance_type a b)
instance_again a b d w q = rw (q.kind, q.first, q.second)

-- a row is found again in its word
again : (ty : Row) → fit (fields_of (row_word ty)) ≡ true → row_of (shape_of (word_of (row_word ty))) ≡ Some ty
again unit_type h = refl
again bottom_type h = refl
again (base_type k) h = let f = under k _ _ h in base_again k (word_of (row_word (base_type k))) (omega arith) (omega arith)
again (function_type a b) h =
    function_again a b 0 (word_of (row_word (function_type a b)))
    (referring 19 a b 0 (word_of (row_word (function_type a b))) (under a _ _ h) (under b _ _ (rest a _ _ h)) (omega arith) (omega arith))
again (coroutine_type a w b) h =
    coroutine_again a w b (word_of (row_word (coroutine_type a w b)))
    (referring 20 a w b (word_of (row_word (coroutine_type a w b))) (under a _ _ h) (under w _ _ (rest a _ _ h))
    (under b _ _ (rest w _ _ (rest a _ _ h))) (omega arith))
again (instance_type w b) h =
    instance_again w b 0 (word_of (row_word (instance_type w b)))
    (referring 21 w b 0 (word_of (row_word (instance_type w b))) (under w _ _ h) (under b _ _ (rest w _ _ h)) (omega arith) (omega arith))

as_long : (table : List Row) → length (table_words table) ≡ length table
as_long [] = refl
as_long (ty ∷ table) = ap suc (as_long table)

within : (table : List Row) → AllByRecursion RowFits table → (r : ℕ) → r < length table → row_of (shape_of (get_or (table_words table) r 0)) ≡ at table r
within [] a r h = absurd (omega arith)
within (ty ∷ table) a zero h = again ty a.0
within (ty ∷ table) a (suc r) h = within table a.1 r (omega arith)

past : (table : List Row) (r : ℕ) → length table ≤ r → at table r ≡ None
past [] r h = refl
past (ty ∷ table) zero h = absurd (omega arith)
past (ty ∷ table) (suc r) h = past table r (omega arith)

pub written : (table : List Row) → AllByRecursion RowFits table → Means (table_words table) table
written table a r =
    let n = as_long table in
    ⊎_elim
    (λ h. ap (λ b. row_of (cond b (shape_of (get_or (table_words table) r 0)) NoRow)) (lt-ltb r (length (table_words table)) (omega arith)) ∙ within table a r h)
    (λ h. ap (λ b. row_of (cond b (shape_of (get_or (table_words table) r 0)) NoRow)) (le-ltb r (length (table_words table)) (omega arith)) ∙ sym (past table r h))
    (cases_lt r (length table))
