pub mod ListingFits
pub mod ListingRuns
