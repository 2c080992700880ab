pub mod Matching
pub mod Trees
