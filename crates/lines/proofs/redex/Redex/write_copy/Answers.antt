use Rattle.std.proofs.Common.{[], ◌∷◌, ◌++◌, length, Some, ap, ◌∙◌, rules}
use Rattle.calculus.specs.Terms.{snapshot, instance}
use Rattle.calculus.specs.Configurations.{row_of, ◌∣◌}
use Rattle.calculus.specs.Views.{view}
use Rattle.calculus.specs.Redexes.{copies, copied}
use Rattle.image.specs.Reading.{label_at, row_at}
use Rattle.image.proofs.Standing.{entry_some}
use Rattle.writing.proofs.Building.{◌▸◌, rewritten}
use Rattle.lines.specs.Lines.{Hole, Lined}
use Rattle.lines.proofs.Sorts.{viewed}
use Rattle.lines.proofs.Fields.{is_kind, no_kind}
use Rattle.lines.proofs.Segments.{relabel}
use Rattle.lines.proofs.Instances.{by_instance, not_copied}
use Rattle.lines.proofs.Started.{copied_kind, copied_label, copied_below, copy_words}
use Rattle.lines.proofs.redex.Redex.write_copy.Goals as goal

pub returns-then-not-is_of : goal.returns-then-not-is_of
returns-then-not-is_of c = λ k K f (h, q) n.
    let r = c.args.self.now in
    not_copied f (viewed f) k.bindings
    (no_kind c.if-not-is_of.ensures c.get-instance.ensures (copied_kind r.image.now k K r.place r.used f h))

pub returns : goal.returns
returns c = λ k K f (h, q) n.
    let r = c.args.self.now in
    by_instance
    (λ g. Hole r.image.now k r.place (snapshot g) K →
    Lined (Some c.place.result) c.args.spare.now _ K (copies (view g) k.bindings))
    f (viewed f)
    (is_kind c.if-not-is_of.ensures c.get-instance.ensures (copied_kind r.image.now k K r.place r.used f h))
    (λ l s h.
    let e = entry_some k.bindings l (copied_below r.image.now k K r.place r.used l s h q) in
    let w = relabel r.image.now k c.binding_at-binding.result c.label.result l
    (c.label.ensures ∙ ap label_at c.get-instance.ensures
    ∙ copied_label r.image.now k K r.place r.used l s h q)
    c.binding_at-binding.ensures.value h.is e.0 e.1 in (
      instance (length k.bindings) (row_of e.0) ∣ (k.bindings ++ e.0 ∷ []),
      ap (λ β. copied β k.bindings) e.1,
      let w = rewritten
          (copy_words r.image.now k K r.place r.used l s h q e.0 c.binding_at-binding.result c.binding_end-end.result
          r.bindings c.row.result w (c.binding_end-end.ensures k l e.0 w) n (c.row.ensures ∙ ap row_at c.get-head.ensures))
          (c.copy.ensures.all ▸ (rewritten (ap (λ w. w ∷ []) c.instance_word.ensures) c.word.ensures.all
          ▸ (c.copy-2.ensures.all ▸ c.copy-3.ensures.all))) in
          search rules,
    ))
    h
