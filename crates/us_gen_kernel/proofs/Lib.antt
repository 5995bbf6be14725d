pub mod Costs
pub mod FormatMultiplied
pub mod KernelTyped
pub mod PartsListed
pub mod PieceMade
pub mod SharedSums
pub mod TextKept
