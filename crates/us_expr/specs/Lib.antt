pub mod Tree
pub mod Value
pub mod Range
pub mod Laws
