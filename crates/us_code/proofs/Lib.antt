pub mod Copies
pub mod Samples
pub mod Trees
