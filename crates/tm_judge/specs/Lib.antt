pub mod Chains
pub mod FlatShape
pub mod Inner
pub mod Judged
pub mod Ordered
pub mod Shape
