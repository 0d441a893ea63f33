pub mod Kept
pub mod Operators
pub mod Valued
