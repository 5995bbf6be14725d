pub mod GenerateLemmas
