-- What contracts of private functions alone cite.
pub mod Cycles
pub mod PathSums
pub mod Weights
