-- The definitions, from the states of a run to what is promised of every history of calls.
pub mod States
pub mod Entry
pub mod Results
pub mod Refusals
pub mod Runs
pub mod Histories
pub mod Soundness
pub mod Statements
