pub mod Opening
pub mod Dims
pub mod Rooms
pub mod Runs
pub mod Unpacking
pub mod Tells
pub mod Sources
