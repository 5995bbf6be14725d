pub mod Orderly
pub mod Own
pub mod Walks
