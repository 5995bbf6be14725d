pub mod Needs
pub mod Written
pub mod AllLevels
pub mod Orders
