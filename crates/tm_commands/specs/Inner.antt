pub mod Judging
pub mod Obeying
pub mod Reading
pub mod Splitting
pub mod Stopping
pub mod Synthesising
