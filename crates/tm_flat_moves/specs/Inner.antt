-- What contracts of private functions alone cite.
pub mod Entering
pub mod Reading
