pub mod Layout
pub mod Conversions
