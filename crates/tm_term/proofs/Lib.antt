pub mod Growth
pub mod Kept
pub mod Operands
pub mod Valued
