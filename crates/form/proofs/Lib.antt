mod RowLoops
mod TermLoop
