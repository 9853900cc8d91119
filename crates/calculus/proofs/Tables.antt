-- A computed test of a type table: where it passes, and the set keeps its law, the setting is well formed.
use Rattle.std.proofs.Common.{◌≡◌, ℕ, zero, suc, ◌+◌, ◌<◌, ◌≤◌, Bool, true, false, cond, ◌&&◌, eqb, ltb, List, [], ◌∷◌, Some, None, sym, refl, ap, ◌∙◌, subst, add-zero, zero-add, arith, ltb→lt}
use Rattle.quantities.specs.Meaning.{Meaning, Lawful}
use Rattle.calculus.specs.Lists.{at}
use Rattle.calculus.specs.Rows.{Row, unit_type, bottom_type, base_type, function_type, coroutine_type, instance_type, Before, Compound, WellFormed}
use Rattle.calculus.proofs.Tests.{never, of_true, eqb_self, same}

abbrev earlier_row : ℕ → Row → Bool
earlier_row n unit_type = true
earlier_row n bottom_type = true
earlier_row n (base_type k) = true
earlier_row n (function_type A B) = ltb A n && ltb B n
earlier_row n (coroutine_type A W B) = ltb A n && ltb W n && ltb B n
earlier_row n (instance_type W B) = ltb W n && ltb B n

-- each row refers to rows before it, the first of them being row n
abbrev pub earlier_rows : ℕ → List Row → Bool
earlier_rows n [] = true
earlier_rows n (ty ∷ ts) = earlier_row n ty && earlier_rows (suc n) ts

abbrev compound : Row → Bool
compound unit_type = false
compound bottom_type = false
compound (base_type k) = false
compound (function_type A B) = true
compound (coroutine_type A W B) = true
compound (instance_type W B) = true

-- after n bases, from base k on, all rows are function, coroutine and instance types
abbrev pub later_rows : ℕ → ℕ → List Row → Bool
later_rows k zero [] = true
later_rows k (suc n) [] = false
later_rows k zero (ty ∷ ts) = compound ty && later_rows k zero ts
later_rows k (suc n) (unit_type ∷ ts) = false
later_rows k (suc n) (bottom_type ∷ ts) = false
later_rows k (suc n) (base_type j ∷ ts) = eqb j k && later_rows (suc k) n ts
later_rows k (suc n) (function_type A B ∷ ts) = false
later_rows k (suc n) (coroutine_type A W B ∷ ts) = false
later_rows k (suc n) (instance_type W B ∷ ts) = false

-- a row as numbers: its kind, and then what it names
abbrev code : Row → List ℕ
code unit_type = 0 ∷ []
code bottom_type = 1 ∷ []
code (base_type k) = 2 ∷ k ∷ []
code (function_type A B) = 3 ∷ A ∷ B ∷ []
code (coroutine_type A W B) = 4 ∷ A ∷ W ∷ B ∷ []
code (instance_type W B) = 5 ∷ W ∷ B ∷ []

abbrev differ : List ℕ → List ℕ → Bool
differ [] [] = false
differ [] (n ∷ ns) = true
differ (m ∷ ms) [] = true
differ (m ∷ ms) (n ∷ ns) = cond (eqb m n) (differ ms ns) true

abbrev unlike : Row → List Row → Bool
unlike ty [] = true
unlike ty (u ∷ ts) = differ (code ty) (code u) && unlike ty ts

-- no two rows are alike
abbrev pub all_unlike : List Row → Bool
all_unlike [] = true
all_unlike (ty ∷ ts) = unlike ty ts && all_unlike ts

below : (m n : ℕ) → ltb m n ≡ true → m < n
below m n e = ltb→lt m n (of_true (ltb m n) e)

both_of : (a b : Bool) → (a && b) ≡ true → (a ≡ true) × (b ≡ true)
both_of true b e = (refl, e)
both_of false b e = never e

row_before : (n : ℕ) (ty : Row) → earlier_row n ty ≡ true → Before n ty
row_before n unit_type e = tt
row_before n bottom_type e = tt
row_before n (base_type k) e = tt
row_before n (function_type A B) e = let a = both_of (ltb A n) (ltb B n) e in (below A n a.0, below B n a.1)
row_before n (coroutine_type A W B) e =
    let a = both_of (ltb A n && ltb W n) (ltb B n) e in let b = both_of (ltb A n) (ltb W n) a.0 in
    (below A n b.0, below W n b.1, below B n a.1)
row_before n (instance_type W B) e = let a = both_of (ltb W n) (ltb B n) e in (below W n a.0, below B n a.1)

nothing_at : {A B : Type 0} {x : A} → None ≡ Some x → B
nothing_at e = let z : ◌≡◌ {A = ℕ} 0 1 = cc in absurd (omega arith)

rows_before : (ts : List Row) (n r : ℕ) (ty : Row) → earlier_rows n ts ≡ true → at ts r ≡ Some ty → Before (n + r) ty
rows_before [] n r ty e h = nothing_at h
rows_before (u ∷ ts) n zero ty e h =
    let z : u ≡ ty = cc in rw (add-zero, ← z) (row_before n u (both_of (earlier_row n u) (earlier_rows (suc n) ts) e).0)
rows_before (u ∷ ts) n (suc r) ty e h =
    let k = rows_before ts (suc n) r ty (both_of (earlier_row n u) (earlier_rows (suc n) ts) e).1 h in
    let z : suc n + r ≡ n + suc r = omega arith in rw z at k

is_compound : (ty : Row) → compound ty ≡ true → Compound ty
is_compound unit_type e = never e
is_compound bottom_type e = never e
is_compound (base_type k) e = never e
is_compound (function_type A B) e = tt
is_compound (coroutine_type A W B) e = tt
is_compound (instance_type W B) e = tt

base_at : (ts : List Row) (k n j : ℕ) → later_rows k n ts ≡ true → j < n → at ts j ≡ Some (base_type (k + j))
base_at ts k zero j e h = absurd (omega arith)
base_at [] k (suc n) j e h = never e
base_at (unit_type ∷ ts) k (suc n) j e h = never e
base_at (bottom_type ∷ ts) k (suc n) j e h = never e
base_at (function_type A B ∷ ts) k (suc n) j e h = never e
base_at (coroutine_type A W B ∷ ts) k (suc n) j e h = never e
base_at (instance_type W B ∷ ts) k (suc n) j e h = never e
base_at (base_type i ∷ ts) k (suc n) zero e h =
    let a = same i k (both_of (eqb i k) (later_rows (suc k) n ts) e).0 in rw (a, add-zero)
base_at (base_type i ∷ ts) k (suc n) (suc j) e h =
    let a = base_at ts (suc k) n j (both_of (eqb i k) (later_rows (suc k) n ts) e).1 (omega arith) in
    let z : suc k + j ≡ k + suc j = omega arith in rw z at a

compound_at : (ts : List Row) (k n j : ℕ) (ty : Row) → later_rows k n ts ≡ true → n ≤ j → at ts j ≡ Some ty → Compound ty
compound_at [] k n j ty e h q = nothing_at q
compound_at (u ∷ ts) k zero zero ty e h q =
    let z : u ≡ ty = cc in rw (← z) (is_compound u (both_of (compound u) (later_rows k zero ts) e).0)
compound_at (u ∷ ts) k zero (suc j) ty e h q =
    compound_at ts k zero j ty (both_of (compound u) (later_rows k zero ts) e).1 (omega arith) q
compound_at (u ∷ ts) k (suc n) zero ty e h q = absurd (omega arith)
compound_at (unit_type ∷ ts) k (suc n) (suc j) ty e h q = never e
compound_at (bottom_type ∷ ts) k (suc n) (suc j) ty e h q = never e
compound_at (function_type A B ∷ ts) k (suc n) (suc j) ty e h q = never e
compound_at (coroutine_type A W B ∷ ts) k (suc n) (suc j) ty e h q = never e
compound_at (instance_type W B ∷ ts) k (suc n) (suc j) ty e h q = never e
compound_at (base_type i ∷ ts) k (suc n) (suc j) ty e h q =
    compound_at ts (suc k) n j ty (both_of (eqb i k) (later_rows (suc k) n ts) e).1 (omega arith) q

differ_self : (ns : List ℕ) → differ ns ns ≡ false
differ_self [] = refl
differ_self (n ∷ ns) = rw (eqb_self n) (differ_self ns)

unlike_at : (ts : List Row) (ty : Row) (r : ℕ) → unlike ty ts ≡ true → at ts r ≡ Some ty → ⊥
unlike_at [] ty r e h = nothing_at h
unlike_at (u ∷ ts) ty zero e h =
    let z : u ≡ ty = cc in let a = (both_of (differ (code ty) (code u)) (unlike ty ts) e).0 in
    never (sym (differ_self (code ty)) ∙ subst (λ w. differ (code ty) (code w) ≡ true) z a)
unlike_at (u ∷ ts) ty (suc r) e h = unlike_at ts ty r (both_of (differ (code ty) (code u)) (unlike ty ts) e).1 h

unlike_rows : (ts : List Row) (r s : ℕ) (ty : Row) → all_unlike ts ≡ true → at ts r ≡ Some ty → at ts s ≡ Some ty → r ≡ s
unlike_rows [] r s ty e h q = nothing_at h
unlike_rows (u ∷ ts) zero zero ty e h q = refl
unlike_rows (u ∷ ts) zero (suc s) ty e h q =
    let z : u ≡ ty = cc in absurd (unlike_at ts u s (both_of (unlike u ts) (all_unlike ts) e).0 (cc))
unlike_rows (u ∷ ts) (suc r) zero ty e h q =
    let z : u ≡ ty = cc in absurd (unlike_at ts u r (both_of (unlike u ts) (all_unlike ts) e).0 (cc))
unlike_rows (u ∷ ts) (suc r) (suc s) ty e h q = ap suc (unlike_rows ts r s ty (both_of (unlike u ts) (all_unlike ts) e).1 h q)

-- the rows after Unit and ⊥ are ts
pub well_formed : (Q : Meaning) (ts : List Row) → Lawful Q → later_rows 0 Q.bases ts ≡ true → earlier_rows 2 ts ≡ true →
    all_unlike (unit_type ∷ bottom_type ∷ ts) ≡ true → WellFormed (record { table = unit_type ∷ bottom_type ∷ ts; set = Q })
well_formed Q ts l h₁ h₂ h₃ = record {
  table_formed = record {
    row_unit = refl;
    row_bottom = refl;
    row_base = λ k h. let a = base_at ts 0 Q.bases k h₁ h in rw zero-add at a;
    row_later = later;
    earlier = λ r ty h. let k = rows_before (unit_type ∷ bottom_type ∷ ts) 0 r ty h₂ h in rw zero-add at k;
    distinct = λ r s ty h q. unlike_rows (unit_type ∷ bottom_type ∷ ts) r s ty h₃ h q;
  };
  set_lawful = l;
}
  where
    later : (r : ℕ) (ty : Row) → suc (suc Q.bases) ≤ r → at (unit_type ∷ bottom_type ∷ ts) r ≡ Some ty → Compound ty
    later zero ty h q = absurd (omega arith)
    later (suc zero) ty h q = absurd (omega arith)
    later (suc (suc r)) ty h q = compound_at ts 0 Q.bases r ty h₁ (omega arith) q
