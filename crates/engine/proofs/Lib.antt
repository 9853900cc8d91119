-- The proofs, each after those that it uses.
mod Entries
mod Admitted
mod Opened
mod ShownParts
mod RunsAndTakes
