pub mod Storable
pub mod Cells
