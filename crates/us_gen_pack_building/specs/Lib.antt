pub mod Levels
pub mod Phases
pub mod Kinds
pub mod Runs
