pub mod Steps
pub mod Reads
pub mod Text
pub mod Views
pub mod Laws
