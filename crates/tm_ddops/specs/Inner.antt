-- What contracts of private functions alone cite: the tables that walks fill.
pub mod Found
pub mod Hashed
pub mod Memo
pub mod Plans
pub mod Tables
pub mod Visited
