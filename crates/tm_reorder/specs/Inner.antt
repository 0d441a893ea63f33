pub mod Clamped
pub mod Keys
pub mod Moved
pub mod Parts
pub mod Raised
pub mod Told
