pub mod Admission
pub mod Laws
