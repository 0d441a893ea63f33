-- What contracts of private functions alone cite.
pub mod Loops
pub mod Narrowed
pub mod Pieces
pub mod Ranks
pub mod Weights
