pub mod Lines
pub mod Words
pub mod States
pub mod Usual
