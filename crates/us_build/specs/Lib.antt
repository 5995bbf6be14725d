pub mod Items
pub mod Ready
pub mod Cells
pub mod Sizes
pub mod Levels
pub mod Ranges
pub mod Ways
pub mod Pieces
