pub mod Promised
pub mod Standing
pub mod States
