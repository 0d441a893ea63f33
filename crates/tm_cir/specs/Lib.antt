pub mod Answer
pub mod Fit
pub mod Meaning
pub mod Text
pub mod Tree
pub mod View
