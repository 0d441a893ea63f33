-- What contracts of private functions alone cite.
pub mod Appending
pub mod Merging
pub mod Shared
