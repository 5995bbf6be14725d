pub mod Units
pub mod Listing
