pub mod BitLists
pub mod Bounds
pub mod Cuts
pub mod Names
pub mod NumberBits
pub mod Pieces
pub mod Transfers
