pub mod Frames
pub mod Lines
pub mod Operations
pub mod Standing
