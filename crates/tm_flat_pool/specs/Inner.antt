-- What contracts of private functions alone cite.
pub mod Bits
pub mod Holding
pub mod Marks
