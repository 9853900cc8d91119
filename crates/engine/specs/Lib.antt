-- The definitions that the engine's contracts cite beside those of the calls.
pub mod States
pub mod Answers
pub mod Entry
pub mod Opening
pub mod Showing
