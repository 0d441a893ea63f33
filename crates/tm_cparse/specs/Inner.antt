-- What contracts of private functions alone cite.
pub mod Blocks
pub mod Bodies
pub mod Fronts
pub mod Names
pub mod Parts
pub mod Reading
pub mod Rows
pub mod Scanning
pub mod Statements
