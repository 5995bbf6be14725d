pub mod Leading
pub mod Lists
pub mod Nesting
pub mod Phasing
pub mod Tables
pub mod Verdicts
