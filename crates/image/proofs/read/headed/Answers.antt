use Rattle.std.proofs.Common.{◌≡◌, ◌&&◌, ◌∷◌, drop, None, sym, ap, ◌∙◌, arith}
use Rattle.std.proofs.lemmas.Bool.{eq-eqb, ne_eqb}
use Rattle.image.specs.Behind.{place}
use Rattle.image.specs.Reading.{used_at, all_zero, headed}
use Rattle.image.proofs.Whole.{headed_by}
use Rattle.image.proofs.read.headed.Goals as goal

pub returns-in_default-reach : goal.returns-in_default-reach
returns-in_default-reach c =
    let w = c.in-Some.field-0-0.now in
    let ws = c.in-Some.body.now in
    sym (ap headed c.in-Some.ensures.cases.0
    ∙ headed_by w ws c.bindings.result (sym c.is_of.ensures ∙ c.if-not-is_of.false) c.bindings.ensures None c.in_default-reach.ensures.value)

pub returns-then-words-rest : goal.returns-then-words-rest
returns-then-words-rest c =
    let w = c.in-Some.field-0-0.now in
    let ws = c.in-Some.body.now in
    let rest = c.in-Some-reach.rest.now in
    let b = c.in-Some-reach.ensures.behind in
    let said : place ws rest ≡ used_at w = omega (arith, c.in-Some.ensures.cases.1, b.fewer, c.if-words-rest.true, c.used.ensures) in
    c.is_zero.ensures
    ∙ sym (ap headed c.in-Some.ensures.cases.0
    ∙ headed_by w ws c.bindings.result (sym c.is_of.ensures ∙ c.if-not-is_of.false) c.bindings.ensures _ c.in-Some-reach.ensures.value
    ∙ ap (λ t. t && all_zero (drop (place ws rest) (w ∷ ws))) (eq-eqb (place ws rest) (used_at w) said)
    ∙ ap all_zero (sym b.are))

pub returns-else-words-rest : goal.returns-else-words-rest
returns-else-words-rest c =
    let w = c.in-Some.field-0-0.now in
    let ws = c.in-Some.body.now in
    let rest = c.in-Some-reach.rest.now in
    let b = c.in-Some-reach.ensures.behind in
    let other = λ (e : place ws rest ≡ used_at w). c.if-words-rest.false (omega (arith, c.in-Some.ensures.cases.1, b.fewer, e, c.used.ensures)) in
    ne_eqb _ _ c.if-words-rest.false
    ∙ sym (ap headed c.in-Some.ensures.cases.0
    ∙ headed_by w ws c.bindings.result (sym c.is_of.ensures ∙ c.if-not-is_of.false) c.bindings.ensures _ c.in-Some-reach.ensures.value
    ∙ ap (λ t. t && all_zero (drop (place ws rest) (w ∷ ws))) (ne_eqb (place ws rest) (used_at w) other))
