use Rattle.std.proofs.Common.{arith}
use Rattle.layout.proofs.Placing.{power_fits, below_kind, few_kinds}
use Rattle.layout.proofs.assembling.placed.Goals as goal

pub overflow_mul-result-then-high : goal.overflow_mul-result-then-high
overflow_mul-result-then-high g c =
    let h = power_fits g.row.HIGH (omega arith) in
    let b = below_kind g.row.LOW g.row.HIGH c.args.low c.args.high (omega arith) (omega arith) (omega arith) in
    rw (power_fits g.row.LOW (omega arith)) (omega arith)

pub overflow_add-result : goal.overflow_add-result
overflow_add-result g c =
    let h = power_fits g.row.HIGH (omega arith) in
    let b = below_kind g.row.LOW g.row.HIGH c.args.low c.args.high (omega arith) (omega arith) (omega arith) in
    rw (power_fits g.row.LOW (omega arith)) (omega (arith, few_kinds c.args.kind))

pub overflow_add-result-then-high : goal.overflow_add-result-then-high
overflow_add-result-then-high g c =
    let h = power_fits g.row.HIGH (omega arith) in
    let b = below_kind g.row.LOW g.row.HIGH c.args.low c.args.high (omega arith) (omega arith) (omega arith) in
    rw (power_fits g.row.LOW (omega arith)) (omega (arith, few_kinds c.args.kind))
