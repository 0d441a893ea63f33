-- What contracts of private functions alone cite.
pub mod Numbers
pub mod Walks
pub mod Weights
