use Rattle.std.proofs.Common.{[], ◌∷◌, ◌++◌, length, ap, ◌∙◌, rules}
use Rattle.calculus.specs.Terms.{instance}
use Rattle.calculus.specs.Replacement.{replace}
use Rattle.calculus.specs.Configurations.{ready, ◌∣◌}
use Rattle.image.specs.Reading.{label_at, row_at}
use Rattle.writing.proofs.Building.{◌▸◌, rewritten}
use Rattle.lines.proofs.Sorts.{viewed}
use Rattle.lines.proofs.Fields.{is_kind, no_kind}
use Rattle.lines.proofs.Binders.{starts, not_started}
use Rattle.lines.proofs.Started.{started_kind, start_words}
use Rattle.lines.proofs.redex.Redex.write_start.Goals as goal

pub returns-then-not-is_of : goal.returns-then-not-is_of
returns-then-not-is_of c = λ k K i f v (h, q) nn.
    let r = c.args.self.now in
    not_started f (viewed f) i v k.bindings
    (no_kind c.if-not-is_of.ensures c.get-coroutine.ensures (started_kind r.image.now k K r.place r.used i f v h q))

pub returns : goal.returns
returns c = λ k K i f v (h, q) nn.
    let r = c.args.self.now in
    let e = is_kind c.if-not-is_of.ensures c.get-coroutine.ensures (started_kind r.image.now k K r.place r.used i f v h q) in
    let b = starts f (viewed f) e in (
      instance (length k.bindings) i ∣ (k.bindings ++ ready i (replace b.0.x v b.0.b) ∷ []),
      b.1 i v k.bindings,
      let w = rewritten
          (start_words r.image.now k K r.place r.used i f v h q b.0 c.name.result c.past-argument.result
          c.past-stop.result r.bindings c.row-row_number.result (c.name.ensures ∙ ap label_at c.get-coroutine.ensures) nn
          (c.row-row_number.ensures ∙ ap row_at c.get.ensures) c.past-argument.ensures.value c.past-stop.ensures.value)
          (c.copy.ensures.all ▸ (rewritten (ap (λ w. w ∷ []) c.instance_word.ensures) c.word.ensures.all ▸ (c.copy-2.ensures.all
          ▸ (rewritten (ap (λ w. w ∷ []) c.binding_word.ensures) c.word-2.ensures.all ▸ c.copy_body.ensures.all)))) in
          search rules,
    )
