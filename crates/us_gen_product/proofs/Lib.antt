pub mod ProductFits
pub mod ProductRuns
pub mod Products
pub mod Sums
