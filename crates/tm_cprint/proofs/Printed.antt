-- The printed text is its blocks, and no others.
pub mod Blocks
pub mod Expressions
pub mod Pieces
pub mod Whole
