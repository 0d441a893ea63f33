pub mod Pooled
pub mod Separating
