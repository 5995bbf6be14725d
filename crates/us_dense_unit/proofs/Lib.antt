mod Back
mod Once
mod Listings
