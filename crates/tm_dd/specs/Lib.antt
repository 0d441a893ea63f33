pub mod Hashed
pub mod Hasher
pub mod Layout
pub mod NodeId
pub mod Reduced
pub mod Table
pub mod Unique
