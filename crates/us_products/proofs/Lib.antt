pub mod FactorLemmas
pub mod MultiplyLemmas
pub mod OperandLemmas
pub mod ProductLemmas
pub mod SumLemmas
