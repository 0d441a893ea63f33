pub mod Examples
pub mod HasType
pub mod Paths
pub mod Promises
pub mod Resolving
pub mod Statements
