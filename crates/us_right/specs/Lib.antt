pub mod Right
pub mod Costs
pub mod Piece
pub mod Draft
pub mod Laws
