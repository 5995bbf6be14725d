pub mod Deciding
pub mod Numbering
pub mod Places
