pub mod Chain
pub mod Countable
pub mod Meanings
