pub mod Columns
pub mod Goes
pub mod Levels
pub mod Nest
pub mod Rooms
