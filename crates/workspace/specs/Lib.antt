pub mod Layout
pub mod Slots
pub mod Views
pub mod Evaluation
pub mod Comparison
