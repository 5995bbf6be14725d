pub mod Entries
pub mod Mixed
pub mod Columns
pub mod Pieces
pub mod Packing
pub mod Whole
