pub mod Changes
pub mod Inner
pub mod Made
pub mod Passing
pub mod Places
pub mod Sets
pub mod Setting
pub mod Telling
