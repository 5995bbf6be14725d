pub mod Token
pub mod Grammar
pub mod Names
pub mod Limits
pub mod Declares
pub mod Words
pub mod Views
