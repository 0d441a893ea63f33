pub mod Choices
pub mod Inner
pub mod Numbers
pub mod Playable
pub mod Played
pub mod Report
pub mod Script
