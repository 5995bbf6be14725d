pub mod Terms
pub mod Filling
pub mod Counting
pub mod Reordering
pub mod Scheduling
pub mod Selecting
