pub mod Inner
pub mod Tried
pub mod Verdict
