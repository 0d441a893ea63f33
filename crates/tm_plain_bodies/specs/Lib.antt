pub mod Arguments
pub mod Calls
pub mod Frames
pub mod Going
pub mod Inner
pub mod Runs
pub mod Tables
