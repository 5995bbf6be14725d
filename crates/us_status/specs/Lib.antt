pub mod Answers
pub mod Lines
pub mod Runs
pub mod Stands
pub mod Uses
pub mod Views
