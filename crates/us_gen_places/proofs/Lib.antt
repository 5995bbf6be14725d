pub mod ColumnsHeld
pub mod LevelsHeld
pub mod SizesHold
pub mod TablesHeld
pub mod Covering
pub mod Holding
pub mod Sharing
