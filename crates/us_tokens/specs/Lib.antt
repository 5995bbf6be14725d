pub mod Text
pub mod Lex
pub mod Front
pub mod Cursor
pub mod Reading
pub mod Places
