pub mod Blocks
pub mod Least
