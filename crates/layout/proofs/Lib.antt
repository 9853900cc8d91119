pub mod Exact
pub mod Placing
