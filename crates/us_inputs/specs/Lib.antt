pub mod Chained
pub mod Chains
pub mod Library
pub mod Sources
pub mod Steps
pub mod Views
