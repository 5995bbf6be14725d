pub mod Interleaved
pub mod Arranged
pub mod Shared
pub mod Dividing
