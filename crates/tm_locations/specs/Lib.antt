pub mod Inner
pub mod Locations
