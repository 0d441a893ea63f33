pub mod Deciding
pub mod Determined
pub mod Following
pub mod Text
