-- One turn of the loop over a term's words.
use Rattle.std.proofs.Common.{◌≡◌, ℕ, suc, ◌+◌, ◌<◌, ◌≤◌, Bool, true, false, cond, ltb, List, [], ◌∷◌, length, get_or, drop, Some, Ok, Err, Option, Result, sym, refl, ap, ◌∙◌, ap₂, arith}
use Rattle.std.proofs.lemmas.List.{drop_more}
use Rattle.std.proofs.lemmas.Bool.{ne_eqb, ltb-false}
use Rattle.faults.specs.declared.Fault.{Fault}
use Rattle.faults.specs.declared.numbers.FaultNumber.TheVariants.{TermWord, TermEnd, Depth}
use Rattle.faults.specs.Faults.{fault_of}
use Rattle.encoding.specs.Scanning.{arity_of}
use Rattle.programs.specs.Terms.{word_rule, opened, term_fault}
use Rattle.form.specs.Words.{word_fault}

abbrev passed : Result (Unit {0}) Fault
passed = Ok tt

-- a word that is not after the term's end, by its rule and whether it is too deep
abbrev within : ℕ → Bool → Bool → Result (Unit {0}) Fault
within p rule deep = cond rule (cond deep (Err (fault_of Depth p)) passed) (Err (fault_of TermWord p))

abbrev onward : ℕ → Option Fault → Bool → Bool → Option Fault
onward p rest rule deep = cond rule (cond deep (Some (fault_of Depth p)) rest) (Some (fault_of TermWord p))

faulty : (p : ℕ) (rest : Option Fault) (rule deep : Bool) (f : Fault) → Err f ≡ within p rule deep → Some f ≡ onward p rest rule deep
faulty p rest true true f q = let z : f ≡ fault_of Depth p = cc in ap Some z
faulty p rest true false f q = let z : ◌≡◌ {A = ℕ} 0 1 = cc in absurd (omega arith)
faulty p rest false deep f q = let z : f ≡ fault_of TermWord p = cc in ap Some z

fine_so : (p : ℕ) (rest : Option Fault) (rule deep : Bool) → passed ≡ within p rule deep → (rest ≡ onward p rest rule deep) × (deep ≡ false)
fine_so p rest true true q = let z : ◌≡◌ {A = ℕ} 0 1 = cc in absurd (omega arith)
fine_so p rest true false q = (refl, refl)
fine_so p rest false deep q = let z : ◌≡◌ {A = ℕ} 0 1 = cc in absurd (omega arith)

-- before the term's end, the fault of a word is by its rule and its depth
inside : (rows : List ℕ) (w p n : ℕ) (ns : List ℕ) → word_fault rows w (length (n ∷ ns)) p ≡ within p (word_rule rows w) (ltb 256 (length (n ∷ ns)))
inside rows w p n ns =
    ap (λ b. cond b (Err (fault_of TermEnd p)) (within p (word_rule rows w) (ltb 256 (length (n ∷ ns)))))
    (ne_eqb (length (n ∷ ns)) 0 (λ z. omega arith))

-- a word's fault is that of the words from it on
word_faulty :
    (rows : List ℕ) (w p : ℕ) (ws o : List ℕ) (f : Fault) → Err f ≡ word_fault rows w (length o) p → Some f ≡ term_fault rows p o (w ∷ ws)
word_faulty rows w p ws [] f e = let z : f ≡ fault_of TermEnd p = cc in ap Some z
word_faulty rows w p ws (n ∷ ns) f e =
    faulty p (term_fault rows (suc p) (opened (arity_of w) (n ∷ ns)) ws) (word_rule rows w) (ltb 256 (length (n ∷ ns))) f
    (e ∙ inside rows w p n ns)

-- a word without a fault: the fault is that of the words after it, and the word is not too deep
record Onward (rows : List ℕ) (w p : ℕ) (ws o : List ℕ) : Type 0 where
  goes : term_fault rows (suc p) (opened (arity_of w) o) ws ≡ term_fault rows p o (w ∷ ws)
  shallow : length o ≤ 256

word_fine : (rows : List ℕ) (w p : ℕ) (ws o : List ℕ) → passed ≡ word_fault rows w (length o) p → Onward rows w p ws o
word_fine rows w p ws [] e = let z : ◌≡◌ {A = ℕ} 0 1 = cc in absurd (omega arith)
word_fine rows w p ws (n ∷ ns) e =
    let k =
    fine_so p (term_fault rows (suc p) (opened (arity_of w) (n ∷ ns)) ws) (word_rule rows w) (ltb 256 (length (n ∷ ns)))
    (e ∙ inside rows w p n ns)
    in
    record { goes = k.0; shallow = ltb-false 256 (length (n ∷ ns)) k.1 }

-- the word i of xs, whose places count from first, with the open terms o: its depth is d, and its place p
module _ (rows xs : List ℕ) (first i d p : ℕ) (o : List ℕ) (within : i < length xs) (deep : d ≡ length o) (place : p ≡ i + first) where
  abbrev w : ℕ
  w = get_or xs i 0

  here : word_fault rows w d p ≡ word_fault rows w (length o) (i + first)
  here = ap₂ (word_fault rows w) deep place

  from_word : term_fault rows (i + first) o (w ∷ drop (i + 1) xs) ≡ term_fault rows (i + first) o (drop i xs)
  from_word = sym (ap (term_fault rows (i + first) o) (drop_more xs i 0 within))

  pub turn_faulty : (f : Fault) → Err f ≡ word_fault rows w d p → Some f ≡ term_fault rows (i + first) o (drop i xs)
  turn_faulty f e = word_faulty rows w (i + first) (drop (i + 1) xs) o f (e ∙ here) ∙ from_word

  pub turn_shallow : passed ≡ word_fault rows w d p → length o ≤ 256
  turn_shallow e = (word_fine rows w (i + first) [] o (e ∙ here)).shallow

  -- the fault is that of the words after it, with the terms that are then open
  pub turn_fine :
      (u : List ℕ) → passed ≡ word_fault rows w d p → u ≡ opened (arity_of w) o →
      term_fault rows (i + 1 + first) u (drop (i + 1) xs) ≡ term_fault rows (i + first) o (drop i xs)
  turn_fine u e q =
      let s : i + 1 + first ≡ suc (i + first) = omega arith in
      ap₂ (λ m v. term_fault rows m v (drop (i + 1) xs)) s q ∙ (word_fine rows w (i + first) (drop (i + 1) xs) o (e ∙ here)).goes ∙ from_word
