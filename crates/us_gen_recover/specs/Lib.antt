pub mod Ranges
pub mod Recovery
pub mod Rooms
pub mod Values
