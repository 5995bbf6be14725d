pub mod Standing
pub mod Finished
pub mod Orders
pub mod Laws
