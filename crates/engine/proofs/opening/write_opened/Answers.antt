use Rattle.std.proofs.Common.{◌-◌, length, set, arith}
use borrow.Rule.Slice.PartMut.{put_mid}
use Rattle.writing.proofs.TakingOver as taking
use Rattle.engine.proofs.Opened.{opens}
use Rattle.engine.proofs.opening.write_opened.Goals as goal

pub returns : goal.returns
returns c = λ t f e.
    let image = c.args.image.now in
    let term = c.args.term.now in
    let w = c.head_word.result in
    opens t f term image (set (put_mid 1 (length image - 1) image c.write_term.new.tail) 0 w) e w c.head_word.ensures
    (taking.opened image term c.write_term.new.tail w (omega (arith, c.requires.low)) c.write_term.ensures)
    (omega (arith, c.if-term-image.false)) c.state_at.result c.state_at.ensures
