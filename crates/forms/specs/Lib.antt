pub mod Monomials
pub mod Forms
pub mod Rows
pub mod Limited
pub mod Polynomials
pub mod Values
pub mod Theorems
pub mod Points
