-- The proofs, each after those that it uses.
mod Examples
pub mod Impossible
pub mod Opened
pub mod Going
pub mod Stopping
pub mod WordRules
pub mod RowsRead
pub mod RowRules
pub mod TablesRead
pub mod Heads
pub mod Programs
