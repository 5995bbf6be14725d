pub mod Answers
pub mod Entries
pub mod Phases
pub mod Rooms
pub mod Runs
pub mod Selected
pub mod Selects
