pub mod FewInstances
pub mod Growing
pub mod Held
pub mod HeldKnown
pub mod ItemSteps
pub mod Listing
pub mod Narrow
pub mod Neighbors
pub mod Numbering
mod Reading
pub mod ShortLists
pub mod ShortMembers
pub mod SizesKnown
pub mod Templates
pub mod Told
