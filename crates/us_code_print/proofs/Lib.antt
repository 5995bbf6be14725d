pub mod Printed
pub mod Lexed
pub mod Front
pub mod ReadTerms
pub mod ReadLines
pub mod ReadBlocks
pub mod ReadProgram
