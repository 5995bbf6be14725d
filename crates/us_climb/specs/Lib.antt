pub mod Layout
pub mod Own
pub mod Entries
pub mod Readers
pub mod Parents
pub mod QueryTables
