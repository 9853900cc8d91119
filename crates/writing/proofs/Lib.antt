-- The proofs, each after those that it uses.
pub mod Puts
pub mod Building
pub mod TakingOver
mod Substituting
pub mod ReplacedTerms
