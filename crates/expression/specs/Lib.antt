pub mod Words
pub mod Kinds
pub mod Run
pub mod Values
pub mod Shape
pub mod Expressions
