-- What contracts of private functions alone cite.
pub mod Aimed
pub mod Alternatives
pub mod Passing
pub mod Places
pub mod Waiting
pub mod Weights
