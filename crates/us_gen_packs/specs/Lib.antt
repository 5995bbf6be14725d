pub mod Packs
pub mod Turns
pub mod Blocks
pub mod Kinds
pub mod Making
