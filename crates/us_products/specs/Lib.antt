pub mod Factors
pub mod Multiplying
pub mod Products
pub mod Sums
pub mod Tasks
pub mod Views
