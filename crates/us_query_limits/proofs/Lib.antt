pub mod Words
pub mod Counting
pub mod Filling
pub mod Spreading
pub mod Selecting
pub mod Phases
