pub mod Agreeing
pub mod Extending
pub mod Searching
