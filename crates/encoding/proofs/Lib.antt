-- The proofs, each after those that it uses.
pub mod Parts
pub mod Depths
pub mod FirstWord
pub mod Reading
pub mod Scanning
pub mod Found
pub mod Places
