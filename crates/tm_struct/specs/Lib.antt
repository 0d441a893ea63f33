pub mod Answer
pub mod Fit
pub mod Inner
pub mod Layout
pub mod Shape
pub mod Text
pub mod Tree
pub mod View
