pub mod BothPhases
pub mod Counted
pub mod DimLists
pub mod OpeningFits
pub mod OpeningRuns
pub mod PartDims
pub mod PartSources
