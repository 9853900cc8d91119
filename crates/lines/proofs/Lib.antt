-- The proofs, each after those that it uses.
pub mod Sorts
pub mod Around
pub mod Segments
pub mod Fields
mod Binders
pub mod Written
mod Instances
mod Started
mod Resumed
mod Captured
mod Operated
