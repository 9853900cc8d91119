use Rattle.std.proofs.Common.{length}
use Rattle.calls.proofs.Runs.{runs_by_steps}
use Rattle.engine.proofs.Engine.run.Goals as goal

pub returns : goal.returns
returns g c =
    record {
      answer = c.run_image.ensures.answer;
      image = c.run_image.ensures.image;
      spare = c.run_image.ensures.spare;
      steps =
          runs_by_steps g.Q.QuantitySet.meaning g.met.Q.QuantitySet.lawful c.args.n c.args.image.now (length c.args.spare.now);
    }
