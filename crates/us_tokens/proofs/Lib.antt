pub mod Values
pub mod Runs
pub mod Standing
pub mod Reading
pub mod Back
pub mod Places
