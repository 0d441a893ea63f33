pub mod Atoms
pub mod Conditions
pub mod Inner
pub mod Orders
pub mod Pool
