pub mod Told
pub mod Named
pub mod Back
pub mod Listings
