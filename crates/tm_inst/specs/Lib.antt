pub mod Answer
pub mod Inner
pub mod Instances
pub mod ShortTexts
pub mod Sizes
pub mod Specification
