-- What contracts of private functions alone cite.
pub mod Owed
pub mod Steps
pub mod Weights
