pub mod Factors
pub mod Results
