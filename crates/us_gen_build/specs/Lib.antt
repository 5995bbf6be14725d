pub mod Blocks
pub mod Kinds
pub mod Levels
pub mod Loops
pub mod Making
pub mod Orders
pub mod Turns
