pub mod Loaded
pub mod Over
pub mod Parts
pub mod Reports
pub mod Stuck
pub mod Told
