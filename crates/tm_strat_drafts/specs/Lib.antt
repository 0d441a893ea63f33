pub mod Begun
pub mod Blocks
pub mod Drafts
pub mod Growth
pub mod Moves
pub mod Sets
pub mod Splits
