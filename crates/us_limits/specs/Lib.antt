pub mod Laws
pub mod Nests
pub mod Orders
pub mod Small
