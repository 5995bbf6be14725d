pub mod Differences
pub mod Lists
pub mod Comparable
pub mod Shared
