pub mod Levels
pub mod Phases
pub mod Kinds
pub mod Runs
pub mod Keys
pub mod Entries
pub mod Shares
