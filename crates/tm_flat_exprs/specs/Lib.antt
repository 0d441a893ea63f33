pub mod Inner
pub mod Kept
pub mod Made
pub mod Merged
pub mod Operators
pub mod Tables
pub mod Valued
pub mod Versions
