mod Answered
mod Examples
pub mod Deciding
