pub mod BestLemmas
pub mod CommandLemmas
pub mod LibraryLemmas
pub mod SideLemmas
pub mod TableLemmas
