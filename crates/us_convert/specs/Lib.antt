pub mod Alike
pub mod Own
pub mod Draft
