-- The definitions, from the words of a term to what is promised of them.
pub mod Encoding
pub mod Depths
pub mod Scanning
pub mod Decoding
pub mod Cursors
pub mod Laws
