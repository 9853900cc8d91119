use Rattle.std.proofs.Common.{rules}
use Rattle.writing.proofs.Building.{◌▸◌, rewritten}
use Rattle.lines.proofs.Written.{yield_words}
use Rattle.lines.proofs.redex.Redex.write_yield.Goals as goal

pub returns : goal.returns
returns c = λ k K v (h, q).
    let r = c.args.self.now in
    let w = rewritten (yield_words r.image.now k K r.place c.past-stop.result r.used v h q c.past-stop.ensures.value)
    (c.copy.ensures.all ▸ (c.word.ensures.all ▸ (c.word-2.ensures.all ▸ (c.copy-2.ensures.all ▸ c.copy-3.ensures.all)))) in
    search rules
