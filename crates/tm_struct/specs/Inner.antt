-- What contracts of private functions alone cite.
pub mod Answering
pub mod Laying
pub mod Naming
pub mod Reaching
