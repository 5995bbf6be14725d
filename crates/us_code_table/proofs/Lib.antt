pub mod Sound
pub mod Values
