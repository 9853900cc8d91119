use Rattle.std.proofs.Common.{◌≡◌, true, false, ◌||◌, eqb, ap, ◌∙◌, arith, rules}
use Rattle.calculus.specs.Replacement.{replace}
use Rattle.calculus.specs.Configurations.{◌∣◌}
use Rattle.image.specs.Reading.{kind_at, label_at}
use Rattle.writing.proofs.Building.{◌▸◌, rewritten}
use Rattle.lines.proofs.Sorts.{kind_of_term, viewed}
use Rattle.lines.proofs.Binders.{applies, not_applied}
use Rattle.lines.proofs.Written.{applied_kind, apply_words}
use Rattle.lines.proofs.redex.Redex.write_apply.Goals as goal

pub returns-then-not-is_binder : goal.returns-then-not-is_binder
returns-then-not-is_binder c = λ k K f v (h, q).
    let r = c.args.self.now in
    let e = ap kind_at c.get-function.ensures ∙ applied_kind r.image.now k K r.place r.used f v h q in
    let n : (eqb (kind_of_term f) 2 || eqb (kind_of_term f) 3) ≡ false = grind (arith) in
    not_applied f (viewed f) v k.bindings n

pub returns : goal.returns
returns c = λ k K f v (h, q).
    let r = c.args.self.now in
    let e = ap kind_at c.get-function.ensures ∙ applied_kind r.image.now k K r.place r.used f v h q in
    let m : (eqb (kind_of_term f) 2 || eqb (kind_of_term f) 3) ≡ true = grind (arith) in
    let b = applies f (viewed f) m in (
      replace b.0.x v b.0.b ∣ k.bindings,
      b.1 v k.bindings,
      let w = rewritten
          (apply_words r.image.now k K r.place r.used f v h q b.0 c.name.result c.past-argument.result
          c.past-stop.result (c.name.ensures ∙ ap label_at c.get-function.ensures) c.past-argument.ensures.value c.past-stop.ensures.value)
          (c.copy.ensures.all ▸ (c.copy_body.ensures.all ▸ c.copy-2.ensures.all)) in
          search rules,
    )
