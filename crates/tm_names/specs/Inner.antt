-- What contracts of private functions alone cite.
pub mod BodyLists
pub mod Meanings
pub mod Repeats
pub mod ScopeParts
pub mod TemplateNumbers
pub mod WrittenTypes
