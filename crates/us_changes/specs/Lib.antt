pub mod Edits
pub mod Keeping
pub mod Merging
pub mod Laws
