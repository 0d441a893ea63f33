pub mod Choices
pub mod Elements
pub mod Flows
pub mod Parted
pub mod Places
pub mod Statements
pub mod Targets
