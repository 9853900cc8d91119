-- The proofs, each after those that it uses.
mod Stopping
pub mod Entered
pub mod Points
pub mod Entering
mod Single
mod Sound
pub mod Runs
pub mod Showing
pub mod Opening
pub mod OpenExactly
mod Examples
