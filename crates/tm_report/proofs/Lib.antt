pub mod Counts
pub mod PutLines
pub mod Putting
