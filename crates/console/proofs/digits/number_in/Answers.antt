use Rattle.std.proofs.Common.{sym, ◌∙◌, arith}
use Rattle.console.proofs.Numbers.{one_more, no_digit, large_digit, too_large, at_end}
use Rattle.console.proofs.digits.number_in.Goals as goal

-- a byte that is no digit
pub returns-in_err-digit : goal.returns-in_err-digit
returns-in_err-digit c =
    c.from_residual.ensures
    ∙ no_digit c.args.base c.args.limit c.loop-byte.value c.loop-byte.byte-index c.args.text.now (omega arith) c.in_err-digit.ensures
    ∙ c.loop-byte.invariant.0

-- a digit of a larger base
pub returns-then-digit-base : goal.returns-then-digit-base
returns-then-digit-base c =
    large_digit c.args.base c.args.limit c.loop-byte.value c.loop-byte.byte-index c.in_ok-digit.digit c.args.text.now (omega arith) c.in_ok-digit.ensures (omega arith)
    ∙ c.loop-byte.invariant.0

-- a number over the limit
pub returns-then-value-limit : goal.returns-then-value-limit
returns-then-value-limit c =
    too_large c.args.base c.args.limit c.loop-byte.value c.loop-byte.byte-index c.in_ok-digit.digit c.args.text.now (omega arith) c.in_ok-digit.ensures (omega arith) (omega arith)
    ∙ c.loop-byte.invariant.0

pub loop-byte-preserved : goal.loop-byte-preserved
loop-byte-preserved c =
    (sym (one_more c.args.base c.args.limit c.loop-byte.value c.loop-byte.byte-index c.in_ok-digit.digit c.args.text.now (omega arith) c.in_ok-digit.ensures (omega arith)) ∙ c.loop-byte.invariant.0, omega arith)

pub returns : goal.returns
returns c =
    sym (at_end c.args.base c.args.limit c.loop-byte.value c.loop-byte.byte-index c.args.text.now (omega arith) (omega arith)) ∙ c.loop-byte.invariant.0
