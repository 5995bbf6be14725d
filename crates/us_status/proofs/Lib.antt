pub mod AnswerLemmas
pub mod EndingLemmas
pub mod FileLemmas
pub mod LineLemmas
pub mod RunLemmas
