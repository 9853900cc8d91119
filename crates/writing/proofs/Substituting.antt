-- The loop of the substitution: what is written so far.
use Rattle.std.proofs.Common.{◌≡◌, ℕ, zero, suc, ◌+◌, ◌<◌, ◌≤◌, true, false, ◌&&◌, eqb, List, [], ◌∷◌, ◌++◌, length, get_or, take, drop, sym, refl, ap, ◌∙◌, append_assoc, append-nil, arith}
use mathlib.Core.Path.{subst₃}
use Rattle.std.proofs.lemmas.List.{drop_more, drop_all}
use Rattle.std.proofs.lemmas.Bool.{cond_both}
use Rattle.encoding.proofs.Scanning.{arity_le}
use Rattle.writing.specs.Writing.{Built}
use Rattle.writing.specs.Replacing.{is_variable, binds, shade, replaced}
use Rattle.writing.proofs.Building.{◌▸◌, rewritten}

module _ (x : ℕ) (vs : List ℕ) (n w : ℕ) (ws : List ℕ) where
  replace_hit : (eqb n 0 && is_variable x w) ≡ true → replaced x vs n (w ∷ ws) ≡ vs ++ replaced x vs n ws
  replace_hit e = rw e

  replace_keep : (eqb n 0 && is_variable x w) ≡ false → replaced x vs n (w ∷ ws) ≡ w ∷ replaced x vs (shade x n w) ws
  replace_keep e = rw e

-- the words done are written, and with what the words of `body` from i on give they make up the whole
pub record SoFar (x : ℕ) (vs body d : List ℕ) (at : ℕ) (out : List ℕ) (to n i : ℕ) : Type 0 where
  pub done : List ℕ
  pub built : Built d at done out to
  pub whole : done ++ replaced x vs n (drop i body) ≡ replaced x vs 0 body

pub none_yet : (x : ℕ) (vs body d : List ℕ) (at : ℕ) → at ≤ length d + 1 → SoFar x vs body d at d at 0 0
none_yet x vs body d at h = record {
  done = [];
  built = record {
    cap = omega arith;
    same = refl;
    put = λ k. record { ends = omega arith; room = k; front = sym (append-nil (take at d)); behind = refl };
    full = λ k. omega arith;
  };
  whole = refl;
}

module _ (x : ℕ) (vs body d : List ℕ) (at : ℕ) (out : List ℕ) (to n i : ℕ) (s : SoFar x vs body d at out to n i) where
  pub all_done : length body ≤ i → Built d at (replaced x vs 0 body) out to
  all_done h =
      rewritten (sym (append-nil s.done) ∙ ap (λ l. s.done ++ replaced x vs n l) (sym (drop_all i body h)) ∙ s.whole) s.built

  module _ (h : i < length body) where
    abbrev w : ℕ
    w = get_or body i 0

    abbrev ws : List ℕ
    ws = drop (i + 1) body

    next : replaced x vs n (w ∷ ws) ≡ replaced x vs n (drop i body)
    next = ap (replaced x vs n) (sym (drop_more body i 0 h))

    pub hit_more :
        {out' : List ℕ} {to' : ℕ} → (eqb n 0 && is_variable x (get_or body i 0)) ≡ true → Built out to vs out' to' →
        SoFar x vs body d at out' to' n (i + 1)
    hit_more {out'} {to'} hit b =
        record {
          done = s.done ++ vs;
          built = s.built ▸ b;
          whole =
              append_assoc s.done vs (replaced x vs n ws)
              ∙ ap (λ l. s.done ++ l) (sym (replace_hit x vs n w ws hit) ∙ next) ∙ s.whole;
        }

    pub keep_more :
        {out' : List ℕ} {to' : ℕ} → (eqb n 0 && is_variable x (get_or body i 0)) ≡ false → Built out to (get_or body i 0 ∷ []) out' to' →
        SoFar x vs body d at out' to' (shade x n (get_or body i 0)) (i + 1)
    keep_more {out'} {to'} keep b =
        record {
          done = s.done ++ (w ∷ []);
          built = s.built ▸ b;
          whole =
              append_assoc s.done (w ∷ []) (replaced x vs (shade x n w) ws)
              ∙ ap (λ l. s.done ++ l) (sym (replace_keep x vs n w ws keep) ∙ next) ∙ s.whole;
        }

-- the same at equal values, as the ways of an `if` leave them
pub moved :
    {x : ℕ} {vs body d : List ℕ} {at : ℕ} {out out' : List ℕ} {to to' n n' i : ℕ} → SoFar x vs body d at out to n i → out' ≡ out →
    to' ≡ to → n' ≡ n → SoFar x vs body d at out' to' n' i
moved {x} {vs} {body} {d} {at} {out} {out'} {to} {to'} {n} {n'} {i} s e f g =
    subst₃ (λ a b c. SoFar x vs body d at a b c i) (sym e) (sym f) (sym g) s

pub shade_le : (x n w : ℕ) → shade x n w ≤ n + 4
shade_le x zero w = cond_both (binds x w) 1 0 (λ m. m ≤ 0 + 4) (λ e. omega arith) (λ e. omega arith)
shade_le x (suc n) w = omega (arith, arity_le w)
