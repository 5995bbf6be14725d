pub mod Kept
pub mod Held
pub mod Checks
pub mod Repeats
pub mod Laws
