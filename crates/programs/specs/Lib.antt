-- The words of a program, reading them, and what is promised of it.
pub mod Tables
pub mod Programs
pub mod Rows
pub mod Terms
pub mod Reading
pub mod Laws
