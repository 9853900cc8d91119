use Rattle.std.proofs.Common.{[], ◌∷◌, Some, ap, ◌∙◌, rules}
use Rattle.calculus.specs.Lists.{put}
use Rattle.calculus.specs.Terms.{unit, application, resume, resumption}
use Rattle.calculus.specs.Configurations.{empty, ◌∣◌}
use Rattle.calculus.specs.Views.{view}
use Rattle.calculus.specs.Redexes.{resumes, resumed}
use Rattle.image.specs.Reading.{label_at, row_at}
use Rattle.writing.proofs.Building.{◌▸◌, rewritten}
use Rattle.lines.specs.Lines.{Hole, Lined}
use Rattle.lines.proofs.Sorts.{viewed}
use Rattle.lines.proofs.Fields.{is_kind, no_kind, is_empty, not_empty}
use Rattle.lines.proofs.Segments.{relabel}
use Rattle.lines.proofs.Instances.{by_instance, not_resumed, when_empty, when_ready}
use Rattle.lines.proofs.Resumed.{resumed_kind, resumed_label, resumed_below, neither_words, resume_words}
use Rattle.lines.proofs.redex.Redex.write_resume.Goals as goal

pub returns-then-not-is_of : goal.returns-then-not-is_of
returns-then-not-is_of c = λ k K f b d e (h, q).
    let r = c.args.self.now in
    not_resumed f (viewed f) b d e k.bindings
    (no_kind c.if-not-is_of.ensures c.get-instance.ensures (resumed_kind r.image.now k K r.place r.used f b d e h))

pub returns-then-not-ready : goal.returns-then-not-ready
returns-then-not-ready c = λ k K f b d e (h, q).
    let r = c.args.self.now in
    by_instance
    (λ g. Hole r.image.now k r.place (resume g b d e) K →
    Lined (Some c.place.result) c.args.spare.now _ K (resumes (view g) b d e k.bindings))
    f (viewed f)
    (is_kind c.if-not-is_of.ensures c.get-instance.ensures (resumed_kind r.image.now k K r.place r.used f b d e h))
    (λ l s h.
    when_empty r.image.now k l c.binding_at-binding.result
    (resumed_below r.image.now k K r.place r.used l s b d e h q)
    (relabel r.image.now k _ c.label.result l
    (c.label.ensures ∙ ap label_at c.get-instance.ensures
    ∙ resumed_label r.image.now k K r.place r.used l s b d e h q)
    c.binding_at-binding.ensures.value h.is)
    (is_empty c.if-not-ready.ensures c.get-head.ensures)
    λ i a w. (
      application e unit ∣ k.bindings,
      ap (λ β. resumed l β b d e k.bindings) a,
      let w = rewritten
          (neither_words r.image.now k K r.place r.used l s b d e h q c.past-third.result c.past-fourth.result
          c.past-stop.result c.past-third.ensures.value c.past-fourth.ensures.value c.past-stop.ensures.value)
          (c.copy.ensures.all ▸ (c.word.ensures.all ▸ (c.copy-then-not-ready.ensures.all ▸ (c.word-then-not-ready.ensures.all
          ▸ c.copy-then-not-ready-2.ensures.all)))) in
          search rules,
    ))
    h

pub returns : goal.returns
returns c = λ k K f b d e (h, q).
    let r = c.args.self.now in
    by_instance
    (λ g. Hole r.image.now k r.place (resume g b d e) K →
    Lined (Some c.place-2.result) c.args.spare.now _ K (resumes (view g) b d e k.bindings))
    f (viewed f)
    (is_kind c.if-not-is_of.ensures c.get-instance.ensures (resumed_kind r.image.now k K r.place r.used f b d e h))
    (λ l s h.
    when_ready r.image.now k l c.binding_at-binding.result
    (resumed_below r.image.now k K r.place r.used l s b d e h q)
    (relabel r.image.now k _ c.label.result l
    (c.label.ensures ∙ ap label_at c.get-instance.ensures
    ∙ resumed_label r.image.now k K r.place r.used l s b d e h q)
    c.binding_at-binding.ensures.value h.is)
    (not_empty c.if-not-ready.ensures c.get-head.ensures)
    λ i t a w. (
      resumption l t b d e ∣ put k.bindings l (empty i),
      ap (λ β. resumed l β b d e k.bindings) a,
      let w = rewritten
          (resume_words r.image.now k K r.place r.used l s b d e h q c.past-third.result c.past-fourth.result
          c.past-stop.result c.past-third.ensures.value c.past-fourth.ensures.value c.past-stop.ensures.value i t
          c.binding_at-binding.result w c.past-end.result c.label-2.result c.row.result
          (c.label-2.ensures ∙ ap label_at c.get-instance.ensures) (c.row.ensures ∙ ap row_at c.get-head.ensures)
          c.past-end.ensures.value)
          (c.copy.ensures.all ▸ (rewritten (ap (λ w. w ∷ []) c.resumption_word.ensures) c.word-2.ensures.all ▸ (c.copy-2.ensures.all
          ▸ (c.copy-3.ensures.all ▸ (c.copy-4.ensures.all ▸ (rewritten (ap (λ w. w ∷ []) c.binding_word.ensures) c.word-3.ensures.all
          ▸ c.copy-5.ensures.all)))))) in
          search rules,
    ))
    h
