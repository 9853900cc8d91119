-- Rows that keep their rules and differ are the words of a table that keeps the rules of tables, and the other way round.
use Rattle.std.proofs.Common.{◌≡◌, ℕ, zero, suc, ◌+◌, ◌<◌, ◌≤◌, true, eqb, ltb, List, [], ◌∷◌, length, get_or, Some, None, Option, sym, refl, ap, ◌∙◌, subst, inl, inr, arith}
use Rattle.std.specs.List.{AllByRecursion}
use Rattle.std.proofs.lemmas.Bool.{and_from, eq-eqb, lt-ltb, cases_lt, cases_order, both_ways}
use Rattle.faults.specs.declared.Fault.{Fault}
use Rattle.calculus.specs.Lists.{at}
use Rattle.calculus.specs.Rows.{Row, unit_type, bottom_type, base_type, TableFormed}
use Rattle.layout.specs.Layout.{word_of}
use Rattle.programs.specs.Tables.{row_word, table_words, RowFits}
use Rattle.programs.specs.Rows.{may_stand, row_rule, rows_fault}
use Rattle.programs.proofs.Impossible.{none}
use Rattle.programs.proofs.RowsRead.{Good, Outcome, rows_outcome}
use Rattle.programs.proofs.RowRules.{row_once, row_of, row_rule_is, Standing, stands, standing_first, standing_second, standing_base, standing_later, standing_before, later_stands}

pub length_table_words : (table : List Row) → length (table_words table) ≡ length table
length_table_words [] = refl
length_table_words (ty ∷ tys) = ap suc (length_table_words tys)

-- what is known where a row stands
record AtRow (table : List Row) (r : ℕ) (ty : Row) : Type 0 where
  inside : r < length table
  word : get_or (table_words table) r 0 ≡ word_of (row_word ty)
  fits : RowFits ty

at_row : (table : List Row) (r : ℕ) (ty : Row) → AllByRecursion RowFits table → at table r ≡ Some ty → AtRow table r ty
at_row [] r ty f e = none e
at_row (x ∷ xs) zero ty f e =
    let i : x ≡ ty = cc in record { inside = omega arith; word = ap (λ y. word_of (row_word y)) i; fits = subst RowFits i f.0 }
at_row (x ∷ xs) (suc r) ty f e =
    let h = at_row xs r ty f.1 e in record { inside = omega (arith, h.inside); word = h.word; fits = h.fits }

row_at : (table : List Row) (r : ℕ) → r < length table → (ty : Row) × (at table r ≡ Some ty)
row_at [] r l = absurd (omega arith)
row_at (x ∷ xs) zero l = (x, refl)
row_at (x ∷ xs) (suc r) l = row_at xs r (omega arith)

-- the words of rows from row r on are those of rows which may stand there
record Tabled (K r : ℕ) (ws : List ℕ) : Type 0 where
  table : List Row
  words : table_words table ≡ ws
  fits : AllByRecursion RowFits table
  standing : (q : ℕ) (ty : Row) → at table q ≡ Some ty → Standing K (r + q) ty

tabled : (K : ℕ) (ws : List ℕ) (r : ℕ) → ((q : ℕ) → q < length ws → row_rule K (r + q) (get_or ws q 0) ≡ true) → Tabled K r ws
tabled K [] r h = record { table = []; words = refl; fits = tt; standing = λ q ty e. none e }
tabled K (w ∷ ws) r h =
    let a = row_of K (r + 0) w (h 0 (omega arith)) in
    let m : (q : ℕ) → r + suc q ≡ suc r + q = λ q. omega arith in
    let b = tabled K ws (suc r) (λ q l. subst (λ j. row_rule K j (get_or ws q 0) ≡ true) (m q) (h (suc q) (omega arith))) in
    record {
      table = a.ty ∷ b.table;
      words = ap (λ v. v ∷ table_words b.table) (sym a.is) ∙ ap (λ l. w ∷ l) b.words;
      fits = (a.fits, b.fits);
      standing = all_stand a.ty b.table (stands K (r + 0) a.ty a.stand) b.standing;
    }
  where
    all_stand :
        (x : Row) (xs : List Row) → Standing K (r + 0) x → ((q : ℕ) (ty : Row) → at xs q ≡ Some ty → Standing K (suc r + q) ty) →
        (q : ℕ) (ty : Row) → at (x ∷ xs) q ≡ Some ty → Standing K (r + q) ty
    all_stand x xs s more zero ty e = let i : x ≡ ty = cc in subst (Standing K (r + 0)) i s
    all_stand x xs s more (suc q) ty e = let m : suc r + q ≡ r + suc q = omega arith in subst (λ j. Standing K j ty) m (more q ty e)

-- the table that rows which keep their rules are the words of
pub record TableOf (K : ℕ) (ws : List ℕ) : Type 0 where
  pub table : List Row
  pub words : table_words table ≡ ws
  pub fits : AllByRecursion RowFits table
  pub formed : TableFormed K table

module _ (K : ℕ) (table : List Row) (fits : AllByRecursion RowFits table) where
  formed_by :
      K + 2 ≤ length table → ((q : ℕ) (ty : Row) → at table q ≡ Some ty → Standing K q ty) →
      ((p q : ℕ) → p < q → q < length table → get_or (table_words table) p 0 ≡ get_or (table_words table) q 0 → ⊥) → TableFormed K table
  formed_by enough standing unlike =
      let first = row_at table 0 (omega arith) in
      let second = row_at table 1 (omega arith) in
      record {
        row_unit = first.1 ∙ ap Some (standing_first K first.0 (standing 0 first.0 first.1));
        row_bottom = second.1 ∙ ap Some (standing_second K second.0 (standing 1 second.0 second.1));
        row_base = λ k l.
            let b = row_at table (suc (suc k)) (omega arith) in
            b.1 ∙ ap Some (standing_base K k b.0 l (standing (suc (suc k)) b.0 b.1));
        row_later = λ r ty l e. standing_later K r ty l (standing r ty e);
        earlier = λ r ty e. standing_before K r ty (standing r ty e);
        distinct = λ r s ty e f.
            let a = at_row table r ty fits e in
            let b = at_row table s ty fits f in
            elim (cases_order r s) [
              | inl same ↦ same
              | inr (inl l) ↦ absurd (unlike r s l b.inside (a.word ∙ sym b.word))
              | inr (inr l) ↦ absurd (unlike s r l a.inside (b.word ∙ sym a.word))
            ];
      }

  module _ (formed : TableFormed K table) where
    formed_stands : (q : ℕ) (ty : Row) → at table q ≡ Some ty → may_stand K q ty ≡ true
    formed_stands zero ty e =
        let f = formed.row_unit in let i : unit_type ≡ ty = cc in subst (λ y. may_stand K 0 y ≡ true) i refl
    formed_stands (suc zero) ty e =
        let f = formed.row_bottom in let i : bottom_type ≡ ty = cc in subst (λ y. may_stand K 1 y ≡ true) i refl
    formed_stands (suc (suc k)) ty e =
        elim (cases_lt k K) [
          | inl l ↦
              let f = formed.row_base k l in
              let i : base_type k ≡ ty = cc in
              subst (λ y. may_stand K (suc (suc k)) y ≡ true) i
              (and_from (ltb k K) (eqb (suc (suc k)) (k + 2)) (lt-ltb k K l) (eq-eqb (suc (suc k)) (k + 2) (omega arith)))
          | inr l ↦
              later_stands K (suc (suc k)) ty (omega arith) (formed.row_later (suc (suc k)) ty (omega arith) e)
              (formed.earlier (suc (suc k)) ty e)
        ]

    pub formed_good : Good K (table_words table) (length (table_words table))
    formed_good =
        let n = length_table_words table in
        record {
          rules = λ q l.
              let b = row_at table q (omega arith) in
              let a = at_row table q b.0 fits b.1 in
              ap (row_rule K q) a.word ∙ row_rule_is K q b.0 a.fits ∙ formed_stands q b.0 b.1;
          unlike = λ p q l m e.
              let b = row_at table p (omega arith) in
              let c = row_at table q (omega arith) in
              let x = at_row table p b.0 fits b.1 in
              let y = at_row table q c.0 fits c.1 in
              let same = row_once b.0 c.0 x.fits y.fits (sym x.word ∙ e ∙ y.word) in
              omega (arith, formed.distinct p q c.0 (b.1 ∙ ap Some same) c.1);
        }

pub table_of : (K : ℕ) (ws : List ℕ) → K + 2 ≤ length ws → Good K ws (length ws) → TableOf K ws
table_of K ws enough g =
    let t = tabled K ws 0 (λ q l. let m : q ≡ 0 + q = omega arith in subst (λ j. row_rule K j (get_or ws q 0) ≡ true) m (g.rules q l)) in
    let n = ap length (sym t.words) ∙ length_table_words t.table in
    record {
      table = t.table;
      words = t.words;
      fits = t.fits;
      formed =
          formed_by K t.table t.fits (omega arith)
          (λ q ty e. let m : 0 + q ≡ q = omega arith in subst (λ j. Standing K j ty) m (t.standing q ty e))
          (λ p q l m e. g.unlike p q l (omega arith) (ap (λ l. get_or l p 0) (sym t.words) ∙ e ∙ ap (λ l. get_or l q 0) t.words));
    }

-- nothing is refused of rows that keep their rules and differ
pub good_none : (K : ℕ) (rows : List ℕ) → Good K rows (length rows) → rows_fault K 0 [] rows ≡ None
good_none K rows g = by_outcome (rows_fault K 0 [] rows) (rows_outcome K rows)
  where
    refused : (f : Fault) → Outcome K rows (Some f) → ⊥
    refused f h =
        let r = h.0 in
        elim h.2.reason [
          | inl (e, b) ↦ both_ways (row_rule K r (get_or rows r 0)) b (g.rules r h.2.within)
          | inr (e, b, (q, l, same)) ↦ g.unlike q r l h.2.within same
        ]

    by_outcome : (o : Option Fault) → Outcome K rows o → o ≡ None
    by_outcome None h = refl
    by_outcome (Some f) h = absurd (refused f h)
