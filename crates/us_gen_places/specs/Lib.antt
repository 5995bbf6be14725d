pub mod Places
pub mod Holds
pub mod Dims
