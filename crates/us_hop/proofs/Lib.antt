pub mod Sources
pub mod Ends
