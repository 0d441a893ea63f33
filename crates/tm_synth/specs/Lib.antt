pub mod Found
pub mod Shown
pub mod Traced
pub mod Written
