-- The proofs, each after those that it uses.
mod Locate
mod Paused
mod Exits
mod Counted
mod Stepping
mod Running
mod TakenTerm
