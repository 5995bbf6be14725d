pub mod Appending
pub mod Going
pub mod LevelRuns
pub mod NestsFit
pub mod NestsOfLevels
