pub mod Parts
pub mod Parses
