pub mod StepLemmas
pub mod ReadLemmas
pub mod SoundLemmas
pub mod TextLemmas
