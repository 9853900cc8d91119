-- The proofs, each after those that it uses.
pub mod Tables
mod Steps
mod Handlers
pub mod Same
pub mod Typings
pub mod Ruled
mod Fits
mod Reasons
mod Scopes
mod Quiet
mod Blame
pub mod Located
mod Examples
