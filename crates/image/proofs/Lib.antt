-- The proofs, each after those that it uses.
pub mod Counting
pub mod Rules
pub mod OneWord
pub mod Shrinking
pub mod Reached
pub mod Whole
pub mod Standing
pub mod FitsKept
pub mod Keeping
pub mod Exact
