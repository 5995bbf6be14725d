pub mod Blocking
pub mod Comparing
pub mod Tables
pub mod Views
