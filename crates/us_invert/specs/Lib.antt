pub mod Sources
pub mod Plan
pub mod Made
pub mod Start
pub mod Recovery
pub mod Examples
