-- Reading rows: with no fault all rows keep their rules and differ, and a fault is at the first that does not.
use Rattle.std.proofs.Common.{◌≡◌, ℕ, zero, suc, ◌+◌, ◌<◌, ◌≤◌, Bool, true, false, cond, eqb, ◌⊎◌, List, [], ◌∷◌, ◌++◌, length, get_or, take, drop, Some, None, Option, sym, refl, ap, ◌∙◌, subst, inl, inr, arith, length-drop}
use Rattle.std.proofs.lemmas.List.{take_more, get_or-take, drop-drop, get_or-drop, length-take-le}
use Rattle.std.proofs.lemmas.Bool.{or_cases, or_parts, eqb-true, eqb-false, cases_lt}
use Rattle.faults.specs.declared.Fault.{Fault}
use Rattle.faults.specs.declared.numbers.FaultNumber.TheVariants.{Row as RowFault, RowTwice}
use Rattle.faults.specs.Faults.{fault_of}
use Rattle.programs.specs.Rows.{row_rule, among, rows_fault}
use Rattle.programs.specs.Laws.{RowRefused}
use Rattle.programs.proofs.Impossible.{never}

unlike_all : (vs : List ℕ) (w : ℕ) → among w vs ≡ false → (p : ℕ) → p < length vs → get_or vs p 0 ≡ w → ⊥
unlike_all [] w h p l e = omega arith
unlike_all (v ∷ vs) w h zero l e = eqb-false v w (or_parts (eqb v w) (among w vs) h).0 e
unlike_all (v ∷ vs) w h (suc p) l e = unlike_all vs w (or_parts (eqb v w) (among w vs) h).1 p (omega arith) e

like_one : (vs : List ℕ) (w : ℕ) → among w vs ≡ true → (p : ℕ) × (p < length vs) × (get_or vs p 0 ≡ w)
like_one [] w h = never h
like_one (v ∷ vs) w h = by_case (or_cases (eqb v w) (among w vs) h) (like_one vs w)
  where
    by_case :
        (eqb v w ≡ true) ⊎ (among w vs ≡ true) → (among w vs ≡ true → (p : ℕ) × (p < length vs) × (get_or vs p 0 ≡ w)) →
        (p : ℕ) × (p < length (v ∷ vs)) × (get_or (v ∷ vs) p 0 ≡ w)
    by_case (inl e) more = (0, omega arith, eqb-true v w e)
    by_case (inr e) more = let r = more e in (suc r.0, omega (arith, r.1), r.2)

-- the first r rows keep their rules and differ from each other
pub record Good (K : ℕ) (rows : List ℕ) (r : ℕ) : Type 0 where
  pub rules : (q : ℕ) → q < r → row_rule K q (get_or rows q 0) ≡ true
  pub unlike : (p q : ℕ) → p < q → q < r → get_or rows p 0 ≡ get_or rows q 0 → ⊥

module _ (K : ℕ) (rows : List ℕ) where
  abbrev pub Outcome : Option Fault → Type 0
  Outcome None = Good K rows (length rows)
  Outcome (Some f) = (r : ℕ) × (f.place ≡ suc r) × RowRefused K rows f.number r

  one_more :
      (r : ℕ) → Good K rows r → row_rule K r (get_or rows r 0) ≡ true → ((p : ℕ) → p < r → get_or rows p 0 ≡ get_or rows r 0 → ⊥) →
      Good K rows (suc r)
  one_more r g h u = record {
    rules = λ q l. elim (cases_lt q r) [
      | inl k ↦ g.rules q k
      | inr k ↦ let e : r ≡ q = omega arith in subst (λ j. row_rule K j (get_or rows j 0) ≡ true) e h
    ];
    unlike = λ p q l m e. elim (cases_lt q r) [
      | inl k ↦ g.unlike p q l k e
      | inr k ↦ let i : q ≡ r = omega arith in u p (omega arith) (e ∙ ap (λ j. get_or rows j 0) i)
    ];
  }

  -- row r is at the front of what is left
  module _ (r w : ℕ) (before ws : List ℕ) (t : take r rows ≡ before) (d : drop r rows ≡ w ∷ ws) (g : Good K rows r) where
    inside : r < length rows
    inside = omega (arith, ap length d, length-drop r rows)

    here : get_or rows r 0 ≡ w
    here = let m : r ≡ r + 0 = omega arith in ap (λ j. get_or rows j 0) m ∙ sym (get_or-drop r rows 0 0) ∙ ap (λ l. get_or l 0 0) d

    earlier : (p : ℕ) → p < r → get_or before p 0 ≡ get_or rows p 0
    earlier p l = ap (λ s. get_or s p 0) (sym t) ∙ get_or-take r rows p 0 l

    long : length before ≡ r
    long = ap length (sym t) ∙ length-take-le r rows (omega (arith, inside))

    take_next : take (suc r) rows ≡ before ++ w ∷ []
    take_next =
        let m : suc r ≡ r + 1 = omega arith in
        ap (λ j. take j rows) m ∙ take_more rows r 0 inside ∙ ap (λ l. l ++ get_or rows r 0 ∷ []) t ∙ ap (λ v. before ++ v ∷ []) here

    drop_next : drop (suc r) rows ≡ ws
    drop_next = let m : suc r ≡ r + 1 = omega arith in ap (λ j. drop j rows) m ∙ sym (drop-drop 1 r rows) ∙ ap (drop 1) d

    good_next : row_rule K r w ≡ true → among w before ≡ false → Good K rows (suc r)
    good_next h a =
        one_more r g (ap (row_rule K r) here ∙ h)
        (λ p l e. unlike_all before w a p (omega (arith, long)) (earlier p l ∙ e ∙ here))

    by_rule :
        (b c : Bool) → row_rule K r w ≡ b → among w before ≡ c →
        (row_rule K r w ≡ true → among w before ≡ false → Outcome (rows_fault K (suc r) (before ++ w ∷ []) ws)) →
        Outcome
        (cond b (cond c (Some (fault_of RowTwice (suc r))) (rows_fault K (suc r) (before ++ w ∷ []) ws)) (Some (fault_of RowFault (suc r))))
    by_rule false c h a more = (
      r,
      refl,
      record {
        within = inside;
        before = g.rules;
        unlike = g.unlike;
        reason = inl (refl, ap (row_rule K r) here ∙ h);
      },
    )
    by_rule true true h a more =
        let q = like_one before w a in (
          r,
          refl,
          record {
            within = inside;
            before = g.rules;
            unlike = g.unlike;
            reason =
                inr (
                  refl,
                  ap (row_rule K r) here ∙ h,
                  (q.0, omega (arith, q.1, long), sym (earlier q.0 (omega (arith, q.1, long))) ∙ q.2 ∙ sym here),
                );
          },
        )
    by_rule true false h a more = more h a

  walk :
      (ws : List ℕ) (r : ℕ) (before : List ℕ) → r ≤ length rows → take r rows ≡ before → drop r rows ≡ ws → Good K rows r →
      Outcome (rows_fault K r before ws)
  walk [] r before l t d g =
      let e : r ≡ length rows = omega (arith, ap length d, length-drop r rows) in subst (Good K rows) e g
  walk (w ∷ ws) r before l t d g =
      by_rule r w before ws t d g (row_rule K r w) (among w before) refl refl
      (λ h a.
      walk ws (suc r) (before ++ w ∷ []) (omega (arith, inside r w before ws t d g)) (take_next r w before ws t d g)
      (drop_next r w before ws t d g) (good_next r w before ws t d g h a))

  pub rows_outcome : Outcome (rows_fault K 0 [] rows)
  rows_outcome = walk rows 0 [] (omega arith) refl refl (record { rules = λ q l. absurd (omega arith); unlike = λ p q l m e. omega arith })
