pub mod Parts
pub mod Phases
pub mod Meaning
pub mod Counted
