pub mod Merge
pub mod OneMatrixLemmas
pub mod EntriesOf
pub mod Search
pub mod GridLemmas
