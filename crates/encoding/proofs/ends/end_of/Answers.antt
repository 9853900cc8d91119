use Rattle.std.proofs.Common.{◌≡◌, ◌+◌, ◌-◌, ◌≤◌, get_or, drop, Some, None, sym, ◌∙◌, arith}
use Rattle.encoding.specs.Scanning.{arity_of, scan}
use Rattle.encoding.proofs.Scanning.{arity_le, scan_drop_end, scan_drop_bad, scan_drop_more, scan_none}
use Rattle.encoding.proofs.Places.{end_cases, end_known, end_within}
use Rattle.encoding.proofs.ends.end_of.Goals as goal

pub returns-in_err-rest : goal.returns-in_err-rest
returns-in_err-rest c =
    let ws = c.args.words.now in
    let i = c.args.at in
    let v : None ≡ scan 1 i (drop i ws) = sym (scan_drop_end ws 1 i i (omega arith) (omega (arith, c.in_err-rest.ensures.lookup))) in
    let w = c.from_residual.ensures ∙ v in
    record { value = w; terms = end_cases ws i _ w; known = end_known ws i _ w; bounds = rw c.from_residual.ensures tt }

pub returns-then-not-is_term_word : goal.returns-then-not-is_term_word
returns-then-not-is_term_word c =
    let ws = c.args.words.now in
    let i = c.args.at in
    let l = c.loop-passed in
    let v : None ≡ scan 1 i (drop i ws) =
    sym (scan_drop_bad c.in_ok-rest.rest.now l.pending (i + l.passed) l.passed l.invariant.0 c.loop-passed-test.true
    (sym c.if-not-is_term_word.ensures))
    ∙ l.invariant.2
    in
    record { value = v; terms = end_cases ws i None v; known = end_known ws i None v; bounds = tt }

pub returns-then-pending-eq0 : goal.returns-then-pending-eq0
returns-then-pending-eq0 c =
    let ws = c.args.words.now in
    let i = c.args.at in
    let xs = c.in_ok-rest.rest.now in
    let l = c.loop-passed in
    let more = scan_drop_more xs l.pending (i + l.passed) l.passed l.invariant.0 c.loop-passed-test.true (sym c.if-not-is_term_word.ensures) in
    let none : l.pending - 1 + arity_of (get_or xs l.passed 0) ≤ 0 = omega (arith, c.arity.ensures, c.if-pending-eq0.true) in
    let v : Some (i + l.passed + 1) ≡ scan 1 i (drop i ws) =
    sym (scan_none _ (i + l.passed + 1) (drop (l.passed + 1) xs) none) ∙ sym more ∙ l.invariant.2
    in
    record { value = v; terms = end_cases ws i _ v; known = end_known ws i _ v; bounds = end_within ws i _ v }

pub loop-passed-preserved : goal.loop-passed-preserved
loop-passed-preserved c =
    let i = c.args.at in
    let l = c.loop-passed in
    let more = scan_drop_more c.in_ok-rest.rest.now l.pending (i + l.passed) l.passed l.invariant.0 c.loop-passed-test.true (sym c.if-not-is_term_word.ensures) in
    let p : i + (l.passed + 1) ≡ i + l.passed + 1 = omega arith in
    (omega (arith, c.if-pending-eq0.false), omega (arith, arity_le, c.arity.ensures), rw (p, c.arity.ensures) (sym more ∙ l.invariant.2))

pub returns : goal.returns
returns c =
    let ws = c.args.words.now in
    let i = c.args.at in
    let l = c.loop-passed in
    let v : None ≡ scan 1 i (drop i ws) =
    sym (scan_drop_end c.in_ok-rest.rest.now l.pending (i + l.passed) l.passed l.invariant.0 c.loop-passed-test.false) ∙ l.invariant.2
    in
    record { value = v; terms = end_cases ws i None v; known = end_known ws i None v; bounds = tt }
