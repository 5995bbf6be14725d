pub mod ChainLemmas
pub mod ChainedLemmas
pub mod FindingLemmas
pub mod HeldLemmas
pub mod InputLemmas
pub mod PiecesLemmas
pub mod SourceLemmas
