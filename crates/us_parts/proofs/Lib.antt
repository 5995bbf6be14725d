pub mod Stepwise
pub mod Counting
pub mod Storing
