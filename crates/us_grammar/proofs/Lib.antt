pub mod Bools
pub mod Law
pub mod Reading
pub mod Steps
pub mod Back
pub mod Prints
pub mod Closed
