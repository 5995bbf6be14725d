pub mod Building
pub mod StepsFit
pub mod StepsLie
pub mod StepsRun
