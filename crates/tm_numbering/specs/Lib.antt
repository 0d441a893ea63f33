pub mod Inner
pub mod Numbers
pub mod Parts
