pub mod Meaning
pub mod Counts
pub mod Interlocks
pub mod CountsLaw
pub mod InterlocksLaw
