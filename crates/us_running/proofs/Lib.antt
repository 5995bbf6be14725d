pub mod Running
pub mod Marks
