pub mod Cells
pub mod Inner
pub mod Split
pub mod Tracked
