use Rattle.std.proofs.Common.{length, sym, ap, rules}
use Rattle.calls.specs.Results.{CallOutcome}
use Rattle.engine.specs.Answers.{taken}
use Rattle.engine.proofs.RunsAndTakes.{take_not_entered, takes}
use Rattle.engine.proofs.taking.take_image.Goals as goal

pub returns-in-Ok : goal.returns-in-Ok
returns-in-Ok c =
    let t = takes c.args.image.now (length c.args.spare.now) c.args.state c.in-Ok.ensures.value c.take_term.new.image c.take_term.ensures in
    record {
      answer = t.answer_is c.state_at.result c.state_at.ensures;
      image = t.image_is;
      spare = search rules;
    }

pub returns : goal.returns
returns c =
    let o = take_not_entered c.args.image.now (length c.args.spare.now) c.args.state c.in-Err.fault c.in-Err.ensures.value in
    record {
      answer = sym (ap (λ (x : CallOutcome). taken c.args.state x.answer) o);
      image = sym (ap (λ (x : CallOutcome). x.image) o);
      spare = search rules;
    }
