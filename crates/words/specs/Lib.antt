pub mod Kinds
pub mod Numbered
