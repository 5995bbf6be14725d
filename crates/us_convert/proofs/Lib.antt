pub mod Likeness
pub mod Numbers
pub mod Counted
pub mod Selected
pub mod Straight
pub mod Drafts
pub mod Results
