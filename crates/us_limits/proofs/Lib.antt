pub mod Blocks
pub mod Nests
pub mod Orders
pub mod Phases
pub mod Terms
