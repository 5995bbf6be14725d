pub mod Dense
pub mod Product
pub mod Rooms
pub mod Runs
