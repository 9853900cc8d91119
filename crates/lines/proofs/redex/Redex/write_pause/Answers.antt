use Rattle.std.proofs.Common.{rules}
use Rattle.writing.proofs.Building.{◌▸◌, rewritten}
use Rattle.lines.proofs.Written.{pause_words}
use Rattle.lines.proofs.redex.Redex.write_pause.Goals as goal

pub returns : goal.returns
returns c = λ k K F t v (h, e) g.
    let w = rewritten
    (pause_words c.args.self.now.image.now k K c.args.self.now.place c.args.inner c.past-stop.result c.past-pending.result c.past-behind.result
    c.args.self.now.used F t v h e g c.past-stop.ensures.value c.past-pending.ensures.value c.past-behind.ensures.value)
    (c.copy.ensures.all ▸ (c.word.ensures.all ▸ (c.copy-2.ensures.all ▸ (c.copy-3.ensures.all ▸ (c.copy-4.ensures.all
    ▸ (c.copy-5.ensures.all ▸ c.copy-6.ensures.all)))))) in
    search rules
