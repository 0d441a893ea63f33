-- What contracts of private functions alone cite.
pub mod Bodies
pub mod Forms
pub mod Names
pub mod Scanning
