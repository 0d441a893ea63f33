pub mod Declarations
pub mod Expressions
pub mod Faults
pub mod Parts
pub mod Specification
pub mod Statements
