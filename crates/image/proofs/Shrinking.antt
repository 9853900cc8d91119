-- A slice that shrinks from the front by one word.
use Rattle.std.proofs.Common.{◌≡◌, ℕ, suc, ◌+◌, ◌-◌, List, ◌∷◌, length, drop, sym, ap, ◌∙◌, arith}
use Rattle.std.proofs.lemmas.List.{drop-drop}
use Rattle.image.specs.Behind.{Behind, place}

module _ (ws rest : List ℕ) (b : Behind ws rest) (w : ℕ) (more : List ℕ) (e : rest ≡ w ∷ more) where
  shorter : length rest ≡ suc (length more)
  shorter = ap length e

  pub next_place : place ws more ≡ place ws rest + 1
  next_place = omega (arith, shorter, b.fewer)

  pub next_behind : Behind ws more
  next_behind =
      let k : length ws - length rest + 1 ≡ length ws - length more = omega (arith, shorter, b.fewer) in
      record {
        fewer = omega (arith, shorter, b.fewer);
        are = ap (drop 1) (sym e ∙ b.are) ∙ drop-drop 1 (length ws - length rest) ws ∙ ap (λ j. drop j ws) k;
      }
