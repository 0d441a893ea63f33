pub mod Appending
pub mod OneEnd
pub mod Playable
mod Playing
pub mod Putting
mod Reaching
mod ReadNumbers
mod SplitLines
mod Stopping
