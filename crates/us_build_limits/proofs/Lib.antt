pub mod Positions
pub mod Blocks
pub mod Packs
pub mod Descents
pub mod Columns
pub mod Phases
pub mod Unordered
