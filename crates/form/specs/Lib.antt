pub mod Parted
pub mod Words
