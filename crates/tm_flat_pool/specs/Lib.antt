pub mod Cells
pub mod Inner
pub mod PoolTerms
pub mod Predicates
pub mod Truths
