pub mod Bytes
pub mod Text
pub mod Contained
pub mod Answers
pub mod Laws
