pub mod Writing
pub mod Replacing
