use Rattle.std.proofs.Common.{length, sym, ap, rules}
use Rattle.calls.specs.Results.{RunOutcome}
use Rattle.engine.specs.Answers.{ran}
use Rattle.engine.proofs.RunsAndTakes.{run_not_entered, run_known, run_image, run_refused, run_accepted}
use Rattle.engine.proofs.running.run_image.Goals as goal

pub returns-in-Err : goal.returns-in-Err
returns-in-Err g c =
    let m = g.Q.QuantitySet.meaning in
    let o = run_not_entered m c.args.n c.args.image.now (length c.args.spare.now) c.args.state c.in-Err.fault c.in-Err.ensures.value in
    record {
      answer = sym (ap (λ (x : RunOutcome). ran c.args.state x.made x.answer) o);
      image = sym (ap (λ (x : RunOutcome). x.image) o);
      spare = search rules;
    }

pub returns-in-Ok : goal.returns-in-Ok
returns-in-Ok g c =
    let m = g.Q.QuantitySet.meaning in
    let image = c.args.image.now in
    let k = length c.args.spare.now in
    let e = c.in_default.ensures.value in
    let x = run_known m c.args.n image k c.args.state e in
    let w = c.run_steps.ensures x.configuration x.is_image in
    record {
      answer =
          run_accepted m c.args.n image k c.args.state e c.run_steps.new.image c.run_steps.result w
          g.met.Q.QuantitySet.lawful c.in-Ok.made c.in-Ok.is c.state_at.result c.state_at.ensures;
      image = run_image m c.args.n image k c.args.state e c.run_steps.new.image c.run_steps.result w;
      spare = search rules;
    }

pub returns : goal.returns
returns g c =
    let m = g.Q.QuantitySet.meaning in
    let image = c.args.image.now in
    let k = length c.args.spare.now in
    let e = c.in_default.ensures.value in
    let x = run_known m c.args.n image k c.args.state e in
    let w = c.run_steps.ensures x.configuration x.is_image in
    record {
      answer =
          run_refused m c.args.n image k c.args.state e c.run_steps.new.image c.run_steps.result w
          c.in-Err-run_steps.field-0 c.in-Err-run_steps.is;
      image = run_image m c.args.n image k c.args.state e c.run_steps.new.image c.run_steps.result w;
      spare = search rules;
    }
