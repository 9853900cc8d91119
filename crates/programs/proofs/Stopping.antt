-- Where the reading of a term's words stops: at their end with nothing open, or at the first word that does not go on.
use Rattle.std.proofs.Common.{◌≡◌, ℕ, suc, ◌+◌, ◌<◌, ◌≤◌, Bool, true, false, cond, ltb, ◌⊎◌, List, [], ◌∷◌, length, get_or, take, drop, Some, None, Option, sym, refl, ap, ◌∙◌, subst, inl, inr, arith, length-drop}
use Rattle.std.proofs.lemmas.List.{take_more, take_all, get_or-drop}
use Rattle.std.proofs.lemmas.Bool.{ltb-true, ltb-false, le-ltb, both_ways}
use Rattle.faults.specs.declared.Fault.{Fault}
use Rattle.faults.specs.declared.numbers.FaultNumber.{FaultNumber}
use Rattle.faults.specs.declared.numbers.FaultNumber.TheVariants.{TermWord, TermEnd, Depth}
use Rattle.faults.specs.Faults.{fault_of}
use Rattle.encoding.specs.Scanning.{arity_of}
use Rattle.programs.specs.Terms.{word_rule, opened, term_fault}
use Rattle.programs.specs.Laws.{Begins, Whole, TermRefused}
use Rattle.programs.proofs.Opened.{after}
use Rattle.programs.proofs.Going.{Going, going_last, going_begins, begins_going, going_whole, whole_going}

-- why a fault is answered where these terms are open and these words are left
abbrev pub Reason : List ℕ → FaultNumber → List ℕ → List ℕ → Type 0
Reason rows f ns ws =
    ((f ≡ TermEnd) × (((ns ≡ []) × (1 ≤ length ws)) ⊎ ((1 ≤ length ns) × (length ws ≡ 0)))) ⊎
    (((f ≡ TermWord) × (1 ≤ length ns) × (1 ≤ length ws) × (word_rule rows (get_or ws 0 0) ≡ false)) ⊎
    ((f ≡ Depth) × (256 < length ns) × (1 ≤ length ws) × (word_rule rows (get_or ws 0 0) ≡ true)))

-- the first k words go on, and the fault is at the next
pub record Stopped (rows ns ws : List ℕ) (i : ℕ) (f : Fault) : Type 0 where
  pub k : ℕ
  pub place : f.place ≡ i + k
  pub within : k ≤ length ws
  pub going : Going rows ns (take k ws)
  pub reason : Reason rows f.number (after ns (take k ws)) (drop k ws)

abbrev pub Outcome : List ℕ → List ℕ → List ℕ → ℕ → Option Fault → Type 0
Outcome rows ns ws i None = Going rows ns ws × (after ns ws ≡ [])
Outcome rows ns ws i (Some f) = Stopped rows ns ws i f

-- one word more in front
one_more :
    (rows : List ℕ) (n : ℕ) (ns : List ℕ) (w : ℕ) (ws : List ℕ) (i : ℕ) (o : Option Fault) → word_rule rows w ≡ true →
    length (n ∷ ns) ≤ 256 → Outcome rows (opened (arity_of w) (n ∷ ns)) ws (suc i) o → Outcome rows (n ∷ ns) (w ∷ ws) i o
one_more rows n ns w ws i None r l h = ((r, omega arith, l, h.0), h.1)
one_more rows n ns w ws i (Some f) r l h =
    record {
      k = suc h.k;
      place = omega (arith, h.place);
      within = omega (arith, h.within);
      going = (r, omega arith, l, h.going);
      reason = h.reason;
    }

by_rule :
    (rows : List ℕ) (n : ℕ) (ns : List ℕ) (w : ℕ) (ws : List ℕ) (i : ℕ) (b d : Bool) → word_rule rows w ≡ b →
    ltb 256 (length (n ∷ ns)) ≡ d →
    Outcome rows (opened (arity_of w) (n ∷ ns)) ws (suc i) (term_fault rows (suc i) (opened (arity_of w) (n ∷ ns)) ws) →
    Outcome rows (n ∷ ns) (w ∷ ws) i
    (cond b (cond d (Some (fault_of Depth i)) (term_fault rows (suc i) (opened (arity_of w) (n ∷ ns)) ws)) (Some (fault_of TermWord i)))
by_rule rows n ns w ws i false d r l h =
    record {
      k = 0;
      place = omega arith;
      within = omega arith;
      going = tt;
      reason = inr (inl (refl, omega arith, omega arith, r));
    }
by_rule rows n ns w ws i true true r l h =
    record {
      k = 0;
      place = omega arith;
      within = omega arith;
      going = tt;
      reason = inr (inr (refl, ltb-true 256 (length (n ∷ ns)) l, omega arith, r));
    }
by_rule rows n ns w ws i true false r l h =
    one_more rows n ns w ws i (term_fault rows (suc i) (opened (arity_of w) (n ∷ ns)) ws) r (ltb-false 256 (length (n ∷ ns)) l) h

pub outcome : (rows ns ws : List ℕ) (i : ℕ) → Outcome rows ns ws i (term_fault rows i ns ws)
outcome rows [] [] i = (tt, refl)
outcome rows [] (w ∷ ws) i =
    record { k = 0; place = omega arith; within = omega arith; going = tt; reason = inl (refl, inl (refl, omega arith)) }
outcome rows (n ∷ ns) [] i =
    record { k = 0; place = omega arith; within = omega arith; going = tt; reason = inl (refl, inr (omega arith, refl)) }
outcome rows (n ∷ ns) (w ∷ ws) i =
    by_rule rows n ns w ws i (word_rule rows w) (ltb 256 (length (n ∷ ns))) refl refl
    (outcome rows (opened (arity_of w) (n ∷ ns)) ws (suc i))

-- nothing is refused of words that go on and leave none open
going_none : (rows ns ws : List ℕ) (i : ℕ) → Going rows ns ws → after ns ws ≡ [] → term_fault rows i ns ws ≡ None
going_none rows [] [] i g e = refl
going_none rows [] (w ∷ ws) i g e = absurd (omega (arith, g.1))
going_none rows (n ∷ ns) [] i g e = absurd (omega (arith, ap length e))
going_none rows (n ∷ ns) (w ∷ ws) i g e =
    rw (g.0, le-ltb 256 (length (n ∷ ns)) g.2) (going_none rows (opened (arity_of w) (n ∷ ns)) ws (suc i) g.3 e)

pub whole_none : (rows ws : List ℕ) (i : ℕ) → Whole rows ws → term_fault rows i (1 ∷ []) ws ≡ None
whole_none rows ws i h = let g = whole_going rows ws h in going_none rows (1 ∷ []) ws i g.0 g.1

pub none_whole : (rows ws : List ℕ) (i : ℕ) → term_fault rows i (1 ∷ []) ws ≡ None → Whole rows ws
none_whole rows ws i e =
    let h = subst (Outcome rows (1 ∷ []) ws i) e (outcome rows (1 ∷ []) ws i) in going_whole rows ws h.0 h.1

module _ (rows ws : List ℕ) (k : ℕ) (n : FaultNumber) (within : k ≤ length ws) where
  -- what it takes for the words with the one at the place to begin a term
  last_word : k < length ws → Begins rows (take (suc k) ws) →
      (word_rule rows (get_or ws k 0) ≡ true) × (1 ≤ length (after (1 ∷ []) (take k ws))) × (length (after (1 ∷ []) (take k ws)) ≤ 256)
  last_word l b =
      let m : k + 1 ≡ suc k = omega arith in
      going_last rows (1 ∷ []) (take k ws) (get_or ws k 0)
      (subst (Going rows (1 ∷ [])) (ap (λ j. take j ws) (sym m) ∙ take_more ws k 0 l) (begins_going rows (take (suc k) ws) b))

  -- the words from the place on
  left : length (drop k ws) + k ≡ length ws
  left = omega (arith, length-drop k ws)

  word : get_or (drop k ws) 0 0 ≡ get_or ws k 0
  word = let m : k + 0 ≡ k = omega arith in get_or-drop k ws 0 0 ∙ ap (λ j. get_or ws j 0) m

  not_whole : 1 ≤ length (after (1 ∷ []) (take k ws)) → Whole rows (take k ws) → ⊥
  not_whole l h = omega (arith, ap length (whole_going rows (take k ws) h).1)

  refused_by : Going rows (1 ∷ []) (take k ws) → Reason rows n (after (1 ∷ []) (take k ws)) (drop k ws) → TermRefused rows ws n k
  refused_by g (inl (e, inl (none, some))) =
      record {
        within = within;
        before = going_begins rows (take k ws) g;
        with_it = λ l b. omega (arith, (last_word l b).1, ap length none);
        reason = inl (e, inl (omega (arith, left), going_whole rows (take k ws) g none));
      }
  refused_by g (inl (e, inr (some, none))) =
      let m : k ≡ length ws = omega (arith, left) in
      record {
        within = within;
        before = going_begins rows (take k ws) g;
        with_it = λ l b. omega arith;
        reason = inl (e, inr (m, λ h. not_whole some (subst (Whole rows) (sym (take_all k ws (omega arith))) h)));
      }
  refused_by g (inr (inl (e, some, more, r))) =
      record {
        within = within;
        before = going_begins rows (take k ws) g;
        with_it = λ l b. both_ways (word_rule rows (get_or ws k 0)) (ap (word_rule rows) (sym word) ∙ r) (last_word l b).0;
        reason = inr (inl (e, omega (arith, left), not_whole some, ap (word_rule rows) (sym word) ∙ r));
      }
  refused_by g (inr (inr (e, deep, more, r))) =
      record {
        within = within;
        before = going_begins rows (take k ws) g;
        with_it = λ l b. omega (arith, (last_word l b).2);
        reason = inr (inr (e, omega (arith, left), not_whole (omega arith), ap (word_rule rows) (sym word) ∙ r));
      }

pub some_refused :
    (rows ws : List ℕ) (i : ℕ) (n : FaultNumber) (p : ℕ) → term_fault rows i (1 ∷ []) ws ≡ Some (fault_of n p) →
    (k : ℕ) × (p ≡ i + k) × TermRefused rows ws n k
some_refused rows ws i n p e =
    let h = subst (Outcome rows (1 ∷ []) ws i) e (outcome rows (1 ∷ []) ws i) in
    (h.k, h.place, refused_by rows ws h.k n h.within h.going h.reason)
