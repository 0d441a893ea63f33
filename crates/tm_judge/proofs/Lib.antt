pub mod Begins
mod Chains
mod Counting
mod Judging
mod Locating
pub mod Moving
pub mod Numbers
mod OneState
mod OneVerdict
mod Ordering
pub mod Sound
mod Startable
