use Rattle.std.proofs.Common.{ap, ◌∙◌, rules}
use Rattle.calculus.specs.Terms.{fix}
use Rattle.calculus.specs.Replacement.{replace}
use Rattle.calculus.specs.Configurations.{◌∣◌}
use Rattle.image.specs.Reading.{label_at}
use Rattle.writing.proofs.Building.{◌▸◌, rewritten}
use Rattle.lines.proofs.Sorts.{viewed}
use Rattle.lines.proofs.Fields.{is_kind, no_kind}
use Rattle.lines.proofs.Binders.{fixes, not_fixed}
use Rattle.lines.proofs.Written.{fixed_kind, fix_words}
use Rattle.lines.proofs.redex.Redex.write_fix.Goals as goal

pub returns-then-not-is_of : goal.returns-then-not-is_of
returns-then-not-is_of c = λ k K f (h, q).
    let r = c.args.self.now in
    not_fixed f (viewed f) k.bindings
    (no_kind c.if-not-is_of.ensures c.get-abstraction.ensures (fixed_kind r.image.now k K r.place r.used f h q))

pub returns : goal.returns
returns c = λ k K f (h, q).
    let r = c.args.self.now in
    let e = is_kind c.if-not-is_of.ensures c.get-abstraction.ensures (fixed_kind r.image.now k K r.place r.used f h q) in
    let b = fixes f (viewed f) e in (
      replace b.0.x (fix f) b.0.b ∣ k.bindings,
      b.1 k.bindings,
      let w = rewritten
          (fix_words r.image.now k K r.place r.used f h q b.0 c.name.result c.past-stop.result
          (c.name.ensures ∙ ap label_at c.get-abstraction.ensures) c.past-stop.ensures.value)
          (c.copy.ensures.all ▸ (c.copy_body.ensures.all ▸ c.copy-2.ensures.all)) in
          search rules,
    )
