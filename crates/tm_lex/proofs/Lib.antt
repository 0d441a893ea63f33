pub mod Classes
pub mod Comments
pub mod Numbers
pub mod Pieces
pub mod Prefixes
pub mod Signs
pub mod Total
pub mod Words
