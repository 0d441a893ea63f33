-- What names and expressions mean by the text alone, over the template in which they stand.
pub mod Calls
pub mod Context
pub mod Crossing
pub mod Declared
pub mod Names
pub mod Parts
pub mod Pauses
pub mod Types
