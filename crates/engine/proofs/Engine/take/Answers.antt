use Rattle.std.proofs.Common.{length}
use Rattle.calls.proofs.Runs.{takes_the_offer}
use Rattle.engine.proofs.Engine.take.Goals as goal

pub returns : goal.returns
returns g c =
    record {
      answer = c.take_image.ensures.answer;
      image = c.take_image.ensures.image;
      spare = c.take_image.ensures.spare;
      offer = takes_the_offer c.args.image.now (length c.args.spare.now);
    }
