pub mod Seen
pub mod Kept
pub mod Expressions
pub mod Told
