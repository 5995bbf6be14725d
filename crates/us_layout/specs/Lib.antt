pub mod Interleaving
pub mod Arranging
pub mod Splitting
