pub mod Shapes
pub mod Splits
pub mod WordsBack
pub mod Running
