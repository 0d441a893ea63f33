pub mod Atoms
pub mod Eliminated
pub mod Joining
pub mod Marks
pub mod Narrowed
pub mod Quantified
pub mod Reading
pub mod Turns
