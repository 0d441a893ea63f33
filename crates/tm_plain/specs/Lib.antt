pub mod Ends
pub mod Machine
pub mod Tasks
