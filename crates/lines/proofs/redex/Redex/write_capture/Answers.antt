use Rattle.std.proofs.Common.{[], ◌∷◌, ap, ◌∙◌, rules}
use Rattle.calculus.specs.Lists.{put}
use Rattle.calculus.specs.Terms.{application}
use Rattle.calculus.specs.Configurations.{ready, ◌∣◌}
use Rattle.calculus.specs.Redexes.{on_empty}
use Rattle.image.specs.Reading.{label_at, row_at}
use Rattle.writing.proofs.Building.{◌▸◌, rewritten}
use Rattle.lines.proofs.Segments.{relabel}
use Rattle.lines.proofs.Fields.{is_empty, not_empty}
use Rattle.lines.proofs.Instances.{when_empty, when_ready}
use Rattle.lines.proofs.Captured.{capture_label, capture_below, capture_words}
use Rattle.lines.proofs.redex.Redex.write_capture.Goals as goal

pub returns-then-ready : goal.returns-then-ready
returns-then-ready c = λ k K l t v b d e (h, q).
    let r = c.args.self.now in
    let y = c.label.ensures ∙ ap label_at c.get.ensures
    ∙ capture_label r.image.now k K r.place r.used l t v b d e h q in
    when_ready r.image.now k l c.binding_at-binding.result
    (capture_below r.image.now k K r.place r.used l t v b d e h q)
    (relabel r.image.now k _ c.label.result l y c.binding_at-binding.ensures.value h.is)
    (not_empty c.if-ready.ensures c.get-head.ensures)
    λ i u a w. ap (λ β. on_empty β (λ j. application d v ∣ put k.bindings l (ready j t))) a

pub returns : goal.returns
returns c = λ k K l t v b d e (h, q).
    let r = c.args.self.now in
    let y = c.label.ensures ∙ ap label_at c.get.ensures
    ∙ capture_label r.image.now k K r.place r.used l t v b d e h q in
    when_empty r.image.now k l c.binding_at-binding.result
    (capture_below r.image.now k K r.place r.used l t v b d e h q)
    (relabel r.image.now k _ c.label.result l y c.binding_at-binding.ensures.value h.is)
    (is_empty c.if-ready.ensures c.get-head.ensures)
    λ i a w. (
      application d v ∣ put k.bindings l (ready i t),
      ap (λ β. on_empty β (λ j. application d v ∣ put k.bindings l (ready j t))) a,
      let w = rewritten
          (capture_words r.image.now k K r.place r.used l t v b d e h q c.past-pending.result c.past-second.result
          c.past-third.result c.past-fourth.result c.past-stop.result c.past-pending.ensures.value c.past-second.ensures.value
          c.past-third.ensures.value c.past-fourth.ensures.value c.past-stop.ensures.value i c.binding_at-binding.result c.row.result w
          (c.row.ensures ∙ ap row_at c.get-head.ensures))
          (c.copy.ensures.all ▸ (c.word.ensures.all ▸ (c.copy-2.ensures.all ▸ (c.copy-3.ensures.all ▸ (c.copy-4.ensures.all
          ▸ (rewritten (ap (λ w. w ∷ []) c.binding_word.ensures) c.word-2.ensures.all ▸ (c.copy-5.ensures.all ▸ c.copy-6.ensures.all))))))) in
          search rules,
    )
