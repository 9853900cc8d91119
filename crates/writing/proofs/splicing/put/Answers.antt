use Rattle.std.proofs.Common.{arith}
use Rattle.writing.proofs.Puts.{same_part, put_is}
use Rattle.writing.proofs.splicing.put.Goals as goal

pub returns : goal.returns
returns c =
    put_is c.args.out.now c.args.at c.args.new.now _ (omega arith)
    (same_part c.args.out.now _ c.args.new.now c.args.at c.copy_from_slice.ensures.after)
