pub mod Goals
pub mod Rounds
pub mod Safety
pub mod Turns
pub mod Waits
