pub mod Actors
pub mod Bounds
pub mod Conditions
pub mod Markable
pub mod Marks
pub mod Parameters
pub mod Truths
