use Rattle.layout.proofs.Exact.{decodes}
use Rattle.layout.proofs.WordTryFromU32.try_from.Goals as goal

pub returns : goal.returns
returns c = rw (c.ok_or.ensures.value, c.parse.ensures) (decodes c.args.number)
