pub mod Rising
pub mod Numbers
pub mod Cells
pub mod OneLevel
pub mod Fronts
pub mod Ready
pub mod Levels
pub mod Part
