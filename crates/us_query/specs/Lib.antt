pub mod Counts
pub mod Ranked
pub mod Lanes
