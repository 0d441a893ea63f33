pub mod Entries
pub mod Found
pub mod Growth
pub mod Items
pub mod Over
pub mod Pairs
