pub mod Ascending
pub mod Joined
pub mod Ordered
pub mod Permuted
