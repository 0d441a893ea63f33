pub mod Fields
pub mod Inner
