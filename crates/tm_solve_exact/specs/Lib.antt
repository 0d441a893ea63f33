pub mod Bits
pub mod Coding
pub mod Deciding
pub mod Exact
pub mod Laws
pub mod Listed
pub mod Rising
pub mod Solving
