use Rattle.std.proofs.Common.{Err, sym, ap, ◌∙◌, rules}
use Rattle.engine.proofs.Entries.{other_state, that_state}
use Rattle.engine.proofs.entry.check_image.Goals as goal

pub returns-then-ne : goal.returns-then-ne
returns-then-ne c =
    ap Err c.new-then-ne.ensures
    ∙ other_state c.args.image.now c.args.wanted (sym c.if-not-read_image.ensures.value) (search rules)

pub returns : goal.returns
returns c = that_state c.args.image.now c.args.wanted (sym c.if-not-read_image.ensures.value) (search rules)
