pub mod Dense
pub mod Listing
