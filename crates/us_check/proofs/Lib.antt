pub mod Collected
pub mod Made
pub mod ReadBack
pub mod Same
pub mod Accepted
pub mod WellFormed
pub mod Repeated
pub mod Told
