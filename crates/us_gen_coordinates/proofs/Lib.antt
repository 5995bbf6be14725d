pub mod Typed
pub mod Lowering
pub mod Filled
pub mod Leading
pub mod Holding
