-- A text is one list of blocks: the laws of the text's tokens and of its grammar.
pub mod Cuts
pub mod Expressions
pub mod Functions
pub mod Numbers
pub mod Whole
