use Rattle.std.proofs.Common.{inl, inr, sym, ap, ◌∙◌}
use Rattle.calls.specs.States.{is_of}
use Rattle.engine.proofs.ShownParts.{end_shown, offer_shown}
use Rattle.engine.proofs.showing.value_place.Goals as goal

pub returns-in-Offering : goal.returns-in-Offering
returns-in-Offering c k g m i =
    offer_shown c.args.image.now k m c.past.result c.past.ensures.value (ap (λ s. is_of s k.term) (sym c.in-Offering.is) ∙ i)

pub returns-in-Going : goal.returns-in-Going
returns-in-Going c k g m i =
    elim c.in-Going.is [
      | inl e ↦ absurd (g e)
      | inr e ↦ end_shown c.args.image.now k m (ap (λ s. is_of s k.term) (sym e) ∙ i)
    ]
