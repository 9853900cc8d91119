use Rattle.std.proofs.Common.{◌∙◌, rules}
use Rattle.calculus.specs.Terms.{suspension}
use Rattle.calculus.specs.Configurations.{◌∣◌}
use Rattle.image.proofs.Whole.{laid}
use Rattle.writing.proofs.Building.{◌▸◌, rewritten}
use Rattle.steps.proofs.TakenTerm.{suspended_image, take_words}
use Rattle.steps.proofs.taking.write_taken.Goals as goal

pub returns : goal.returns
returns c = λ k t v m q.
    let i = suspended_image c.args.image.now k t v m q in
    let h = (laid c.args.image.now (suspension t v ∣ k.bindings) i).head in
    let w = rewritten
    (take_words c.args.image.now t v k.bindings c.past-pending.result c.past-stop.result c.used.result i
    (c.used.ensures ∙ h.used) c.past-pending.ensures.value c.past-stop.ensures.value)
    (c.copy.ensures.all ▸ c.copy-2.ensures.all) in
    search rules
