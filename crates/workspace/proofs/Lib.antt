pub mod Laws
pub mod Steps
pub mod Stack
pub mod Evaluating
pub mod Comparing
pub mod Applied
