-- Where the settling loop ends, and the rule of a frame.
use Rattle.std.proofs.Common.{◌≡◌, ℕ, true, false, List, [], ◌∷◌, get_or, Err, sym, ap}
use Rattle.faults.specs.declared.Fault.{Fault}
use Rattle.faults.specs.declared.numbers.FaultNumber.TheVariants.{Types}
use Rattle.quantities.specs.Meaning.{Meaning}
use Rattle.rules.specs.Rules.{Verdict, refused, rules}
use Rattle.typing.specs.declared.model.Scoped.{Scoped}
use Rattle.typing.specs.declared.model.Frame.{Frame}
use Rattle.typing.specs.Machine.{variables, is_full, rule_of, settle}
use Rattle.typing.specs.Machine.Turn.{stop, go}

module _ (m : Meaning) (rows : List ℕ) (Γ : List Scoped) (e : Frame) where
  -- the newest frame waits for a part
  pub settle_wait : (fs es : List Frame) → fs ≡ e ∷ es → is_full e ≡ false → settle m rows Γ fs ≡ go fs Γ
  settle_wait fs [] p h = rw (p, h)
  settle_wait fs (f ∷ es) p h = rw (p, h)

  -- a fault is the answer
  pub settle_fault :
      (fs es : List Frame) (v : Verdict) (x : Fault) → fs ≡ e ∷ es → is_full e ≡ true → rule_of m rows Γ e ≡ v → v ≡ Err x →
      settle m rows Γ fs ≡ stop v
  settle_fault fs [] v x p h r q = rw (p, h, r)
  settle_fault fs (f ∷ es) v x p h r q = rw (p, h, r, q)

-- the rule of a frame by the number of its word's kind
pub by_kind :
    (m : Meaning) (rows : List ℕ) (Γ : List Scoped) (f : Frame) (k w : ℕ) → w ≡ k →
    get_or (rules m rows (variables Γ) f.word f.place f.first f.second f.third f.fourth) k (refused Types f.place)
    ≡ get_or (rules m rows (variables Γ) f.word f.place f.first f.second f.third f.fourth) w (refused Types f.place)
by_kind m rows Γ f k w e =
    ap
    (λ i. get_or (rules m rows (variables Γ) f.word f.place f.first f.second f.third f.fourth) i (refused Types f.place))
    (sym e)
