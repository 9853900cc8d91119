-- What lasts in a history: bindings and their rows, and where new rows come from.
use Rattle.std.proofs.Common.{◌≡◌, ℕ, zero, suc, ◌<◌, ◌≤◌, ◌⊎◌, List, [], ◌∷◌, ◌++◌, length, sym, refl, ap, ◌∙◌, inl, inr, append_assoc, arith, length-append}
use Rattle.quantities.specs.Meaning.{Meaning}
use Rattle.calculus.specs.Lists.{Prefix}
use Rattle.calculus.specs.Terms.{Term}
use Rattle.calculus.specs.Configurations.{row_of, Bindings, rows}
use Rattle.calculus.specs.Steps.{Step, Growth, same_rows, one_more}
use Rattle.calculus.specs.Histories.{Later, at_once, then_step, then_take, Added, Lasts}
use Rattle.calculus.specs.StatementsOfPlaces.{Lasting}
use Rattle.calculus.proofs.Bindings.{at_last, at_rows, at_unrows, grown_longer, grown_same}
use Rattle.calculus.proofs.Growth.{grows}

prefix_trans : {xs ys zs : List ℕ} → Prefix xs ys → Prefix ys zs → Prefix xs zs
prefix_trans {xs} p q =
    record { more = p.more ++ q.more; is = q.is ∙ (ap (λ ws. ws ++ q.more) p.is ∙ append_assoc xs p.more q.more) }

growth_prefix : {t : Term} {μ μ' : Bindings} → Growth t μ μ' → Prefix (rows μ) (rows μ')
growth_prefix (same_rows e) = grown_same e
growth_prefix (one_more r o e) = record { more = r ∷ []; is = e }

rows_length : (μ : Bindings) → length (rows μ) ≡ length μ
rows_length [] = refl
rows_length (β ∷ μ) = ap suc (rows_length μ)

below_or_last : (l n : ℕ) → l < suc n → (l < n) ⊎ (l ≡ n)
below_or_last zero zero h = inr refl
below_or_last zero (suc n) h = inl (omega arith)
below_or_last (suc l) zero h = absurd (omega arith)
below_or_last (suc l) (suc n) h =
    let k : l < suc n = omega arith in elim (below_or_last l n k) [ inl j ↦ inl (omega arith) | inr e ↦ inr (ap suc e) ]

module _ {Q : Meaning} where
  later_still : {t u : Term} {μ ν : Bindings} {w : Term} {κ : Bindings} → Later Q t μ u ν → Later Q u ν w κ → Later Q t μ w κ
  later_still h at_once = h
  later_still h (then_step k s) = then_step (later_still h k) s
  later_still h (then_take k) = then_take (later_still h k)

  grow : {t : Term} {μ : Bindings} {t' : Term} {μ' : Bindings} → Later Q t μ t' μ' → Prefix (rows μ) (rows μ')
  grow at_once = grown_same refl
  grow (then_step h s) = prefix_trans (grow h) (growth_prefix (grows s))
  grow (then_take h) = grow h

  -- what was added is there later too
  still_added : {t u w : Term} {μ ν κ : Bindings} {l : ℕ} → Added Q t μ u ν l → Later Q u ν w κ → Added Q t μ w κ l
  still_added {l = l} a h = record {
    term_before = a.term_before;
    bindings_before = a.bindings_before;
    term_after = a.term_after;
    bindings_after = a.bindings_after;
    reached = a.reached;
    step = a.step;
    goes_on = later_still a.goes_on h;
    row = a.row;
    origin = a.origin;
    label_is = a.label_is;
    row_added = a.row_added;
    row_stays = (grown_longer (grow h)).still l a.row a.row_stays;
  }

  -- what a step adds
  adds : {t u w : Term} {μ ν κ : Bindings} (l : ℕ) → Later Q t μ u ν → Step Q u ν w κ → ((l < length ν) → Added Q t μ u ν l) →
      Growth u ν κ → l < length κ → Added Q t μ w κ l
  adds {ν = ν} {κ = κ} l h s before (same_rows e) b =
      let x = rows_length ν in let y = rows_length κ in let z : length (rows κ) ≡ length (rows ν) = ap length e in
      let k : l < length ν = omega arith in still_added (before k) (then_step at_once s)
  adds {t} {u} {w} {μ} {ν} {κ} l h s before (one_more r o e) b = go (below_or_last l (length ν) k)
    where
      more : length κ ≡ suc (length ν)
      more =
          let x = rows_length ν in let y = rows_length κ in
          let z : length (rows κ) ≡ length (rows ν ++ r ∷ []) = ap length e in
          let v = length-append (rows ν) (r ∷ []) in omega arith

      k : l < suc (length ν)
      k = let m = more in omega arith

      go : (l < length ν) ⊎ (l ≡ length ν) → Added Q t μ w κ l
      go (inl j) = still_added (before j) (then_step at_once s)
      go (inr q) =
          let x = rows_length ν in
          record {
            term_before = u;
            bindings_before = ν;
            term_after = w;
            bindings_after = κ;
            reached = h;
            step = s;
            goes_on = at_once;
            row = r;
            origin = o;
            label_is = sym q;
            row_added = e;
            row_stays = rw (e, q, ← x) (at_last (rows ν) r);
          }

  added : {t : Term} {μ : Bindings} {t' : Term} {μ' : Bindings} → Later Q t μ t' μ' → (l : ℕ) → length μ ≤ l → l < length μ' →
      Added Q t μ t' μ' l
  added at_once l h b = absurd (omega arith)
  added (then_step k s) l h b = adds l k s (λ j. added k l h j) (grows s) b
  added (then_take k) l h b = still_added (added k l h b) (then_take at_once)

  lasts : {t t' : Term} {μ μ' : Bindings} → Later Q t μ t' μ' → Lasts Q t μ t' μ'
  lasts {μ = μ} {μ' = μ'} h = record {
    rows_grow = grow h;
    binding_stays = λ l β e. at_unrows μ' l (row_of β) ((grown_longer (grow h)).still l (row_of β) (at_rows μ l e));
    others_added = added h;
  }

pub lasting : Lasting
lasting Q p t t' μ μ' h k = (later_still h k, lasts k)
