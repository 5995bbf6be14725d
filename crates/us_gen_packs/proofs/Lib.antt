pub mod Cells
pub mod Last
pub mod Filling
pub mod Looping
pub mod Building
pub mod Typed
pub mod Making
