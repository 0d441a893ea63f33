-- What contracts of private functions alone cite.
pub mod BodyTables
pub mod CallGraphs
pub mod Calls
pub mod CellScopes
pub mod Operators
pub mod Slots
pub mod Tables
pub mod Walks
