pub mod Plans
pub mod Rooms
pub mod Runs
pub mod Walk
