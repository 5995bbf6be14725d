pub mod Agree
pub mod Does
pub mod Fits
pub mod Laws
pub mod Ordered
pub mod Programs
pub mod Rules
pub mod Wider
