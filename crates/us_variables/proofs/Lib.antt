pub mod Values
pub mod Inverse
pub mod Steps
pub mod Indices
