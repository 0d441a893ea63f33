pub mod Atoms
pub mod Claims
pub mod Lists
pub mod OneState
pub mod Pooled
pub mod Separated
pub mod Wide
