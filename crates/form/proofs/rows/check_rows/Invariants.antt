use Rattle.std.proofs.Common.{◌≡◌, [], take, drop}
use Rattle.programs.specs.Rows.{rows_fault}
use Rattle.form.proofs.rows.check_rows.Given as goal

abbrev pub invariant-loop-r : goal.invariant-loop-r
invariant-loop-r l = rows_fault l.bases l.r (take l.r l.rows) (drop l.r l.rows) ≡ rows_fault l.bases 0 [] l.rows
