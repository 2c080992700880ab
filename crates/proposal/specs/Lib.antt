pub mod Proposal
pub mod Reading
pub mod Places
pub mod Claims
pub mod Cursors
pub mod Parts
