-- What contracts of private functions alone cite.
pub mod Bodies
pub mod Nodes
pub mod Numbers
pub mod Pools
pub mod Ranks
pub mod Walks
pub mod Weights
