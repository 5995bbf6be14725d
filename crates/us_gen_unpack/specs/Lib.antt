pub mod Listing
pub mod Rooms
pub mod Runs
