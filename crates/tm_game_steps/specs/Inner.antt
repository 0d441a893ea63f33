-- What contracts of private functions alone cite.
pub mod Below
pub mod BelowChanged
pub mod Driving
pub mod Inputs
pub mod Pushed
pub mod Reading
pub mod Sides
pub mod Turns
