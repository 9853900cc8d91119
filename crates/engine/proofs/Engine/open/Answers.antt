use Rattle.std.proofs.Common.{length}
use Rattle.calls.proofs.Opening.{open_sound}
use Rattle.calls.proofs.OpenExactly.{opens_exactly}
use Rattle.engine.proofs.Engine.open.Goals as goal

pub returns : goal.returns
returns g c =
    let m = g.Q.QuantitySet.meaning in
    let law = g.met.Q.QuantitySet.lawful in
    let program = c.args.program.now in
    let s = length c.args.scopes.now in
    let n = length c.args.judgements.now in
    let image = c.args.image.now in
    let k = length c.args.spare.now in
    record {
      answer = c.open_program.ensures.answer;
      image = c.open_program.ensures.image;
      spare = c.open_program.ensures.spare;
      scopes = c.open_program.ensures.scopes;
      judgements = c.open_program.ensures.judgements;
      exact = opens_exactly m law program s n image k;
      sound = open_sound m law program s n image k;
    }
