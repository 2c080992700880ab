pub mod Domains
pub mod Records
pub mod Lines
pub mod Files
