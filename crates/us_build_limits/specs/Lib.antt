pub mod Texts
pub mod Unsorted
