pub mod Bits
pub mod Cell
pub mod Marks
pub mod Memory
pub mod Numbers
pub mod Shapes
