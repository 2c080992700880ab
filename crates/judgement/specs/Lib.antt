pub mod Seen
pub mod Faults
pub mod Walks
pub mod Judging
