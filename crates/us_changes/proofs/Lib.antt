pub mod PutLemmas
pub mod OldLemmas
pub mod StateLemmas
pub mod ValueLemmas
pub mod MergeLemmas
pub mod EditLemmas
