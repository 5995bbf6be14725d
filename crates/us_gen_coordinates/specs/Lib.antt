pub mod Phase
pub mod Laws
pub mod Held
