pub mod CommandLemmas
pub mod CompileLemmas
pub mod ConversionMeans
pub mod ConvertLemmas
pub mod GrammarLemmas
pub mod InfoLemmas
pub mod ReportLemmas
pub mod RunCodeLemmas
