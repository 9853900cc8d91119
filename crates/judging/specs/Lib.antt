pub mod Verdicts
pub mod Answers
pub mod Places
pub mod Statements
