-- The definitions, from the words of a configuration to what is promised of them.
pub mod Images
pub mod Reading
pub mod Seeking
pub mod Behind
pub mod Places
pub mod Stepping
pub mod Laws
