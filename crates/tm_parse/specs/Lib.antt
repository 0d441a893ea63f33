pub mod Answer
pub mod Commands
pub mod Items
pub mod Operands
pub mod Reading
pub mod Standing
pub mod Width
