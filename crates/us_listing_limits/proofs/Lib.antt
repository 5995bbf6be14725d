pub mod BothFit
pub mod OpeningFits
pub mod PlanNumbers
pub mod PlanReads
pub mod RecoveryFits
pub mod WalkFits
