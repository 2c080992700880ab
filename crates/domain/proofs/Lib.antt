pub mod Rings
