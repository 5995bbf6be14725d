mod NumberLemmas
mod TotalLemmas
