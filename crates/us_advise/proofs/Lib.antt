pub mod Sides
pub mod LawfulBlocks
pub mod LeastSoFar
pub mod LeastFound
pub mod Listed
