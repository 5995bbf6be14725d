pub mod Accepted
pub mod Chain
pub mod Meaning
pub mod Plain
