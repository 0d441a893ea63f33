-- What the limits of a specification count.
pub mod Bodies
pub mod Choices
pub mod Instances
