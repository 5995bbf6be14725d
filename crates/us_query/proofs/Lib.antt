pub mod EntryCounts
pub mod Tallies
pub mod Ranking
pub mod Placing
pub mod Filling
pub mod Searching
