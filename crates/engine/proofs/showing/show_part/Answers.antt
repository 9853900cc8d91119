use Rattle.std.proofs.Common.{◌≡◌, Ok, Err, sym, ap, ◌∙◌, arith, rules}
use Rattle.encoding.proofs.Places.{stands_same, stands_within}
use Rattle.calls.specs.Entry.{entered}
use Rattle.calls.specs.Results.{show_from}
use Rattle.engine.specs.Answers.{shown}
use Rattle.engine.proofs.ShownParts.{fault_known, entry_known}
use Rattle.engine.proofs.showing.show_part.Goals as goal

pub returns-in_err-check_entry : goal.returns-in_err-check_entry
returns-in_err-check_entry c = λ g.
    let z : c.from_residual.result ≡ Err c.in_err-check_entry.field-0.0 = search rules in
    ap shown z
    ∙ sym (ap show_from (fault_known (entered c.args.wanted c.args.image.now) c.in_err-check_entry.field-0.0 c.in_err-check_entry.ensures))

pub returns-in_err-cursor : goal.returns-in_err-cursor
returns-in_err-cursor c = λ g.
    let image = c.args.image.now in
    let k = entry_known c.args.wanted image c.in_ok-check_entry.ensures in
    let v = c.value_place-place.ensures k.configuration g k.is_image k.in_state in
    let f = rw c.in_err-cursor.ensures.ok_part at c.from.ensures in
    absurd (omega (arith, stands_within v.value image c.value_place-place.result v.stands, f))

pub returns-in_err-words : goal.returns-in_err-words
returns-in_err-words c = λ g.
    let image = c.args.image.now in
    let place = c.value_place-place.result in
    let k = entry_known c.args.wanted image c.in_ok-check_entry.ensures in
    let v = c.value_place-place.ensures k.configuration g k.is_image k.in_state in
    let f = rw c.in_ok-cursor.ensures.ok_part at c.from.ensures in
    let w = c.next_term.ensures.known v.value
    (stands_same v.value image c.in_ok-cursor.cursor.words.now place c.in_ok-cursor.cursor.at f.1 f.2 v.stands) in
    let x = rw c.in_err-words.ensures.ok_part at w.0 in
    absurd x

pub returns : goal.returns
returns c = λ g.
    let image = c.args.image.now in
    let place = c.value_place-place.result in
    let k = entry_known c.args.wanted image c.in_ok-check_entry.ensures in
    let v = c.value_place-place.ensures k.configuration g k.is_image k.in_state in
    let f = rw c.in_ok-cursor.ensures.ok_part at c.from.ensures in
    let w = c.next_term.ensures.known v.value
    (stands_same v.value image c.in_ok-cursor.cursor.words.now place c.in_ok-cursor.cursor.at f.1 f.2 v.stands) in
    let x = rw c.in_ok-words.ensures.ok_part at w.0 in
    ap (λ l. Ok (record { place = place; words = l })) x ∙ ap Ok (sym v.part) ∙ sym (ap show_from k.is)
