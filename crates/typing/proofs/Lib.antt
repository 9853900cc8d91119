-- The proofs, each after those that it uses.
pub mod Looking
pub mod Steps
pub mod Firsts
pub mod Runs
