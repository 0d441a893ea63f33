-- What contracts of private functions alone cite.
pub mod Growth
pub mod Listed
pub mod Parts
pub mod Sizes
