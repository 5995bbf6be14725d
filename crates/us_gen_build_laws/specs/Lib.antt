pub mod Rows
pub mod Ready
pub mod Numbering
pub mod Built
pub mod Laws
