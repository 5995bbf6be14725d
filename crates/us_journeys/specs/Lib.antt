pub mod Converting
pub mod Hops
pub mod Journeys
pub mod Meanings
