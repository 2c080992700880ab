pub mod Scanning
pub mod Parts
