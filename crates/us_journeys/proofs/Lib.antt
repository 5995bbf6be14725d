pub mod ConversionLemmas
pub mod ConvertedLemmas
pub mod JourneyLemmas
pub mod ReadBackLemmas
