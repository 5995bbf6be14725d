pub mod Sorted
pub mod Runs
pub mod Ranks
pub mod Loads
pub mod Chosen
pub mod Laws
pub mod Worked
