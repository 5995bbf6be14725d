pub mod LineLemmas
pub mod WordLemmas
pub mod DecimalLemmas
pub mod WrittenLemmas
pub mod WordStateLemmas
pub mod LineStateLemmas
pub mod CountLemmas
pub mod UsualLemmas
