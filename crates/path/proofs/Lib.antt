-- The proofs, each after those that it uses.
pub mod KindFacts
pub mod Unfinished
pub mod WalkedTerms
pub mod PausedWords
pub mod PausedTerms
