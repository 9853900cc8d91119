-- Types and yield types are rows of the table.
use Rattle.calculus.proofs.theorems.types_are_rows.Goals as goal
use Rattle.calculus.proofs.Rows.{rows_of_the_table}

pub returns : goal.returns
returns c = rows_of_the_table
