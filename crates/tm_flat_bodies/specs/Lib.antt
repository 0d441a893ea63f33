pub mod Asked
pub mod Inner
pub mod Tables
pub mod Trial
pub mod Walks
