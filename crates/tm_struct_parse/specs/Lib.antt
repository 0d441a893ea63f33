pub mod Answer
pub mod Cut
pub mod Faults
pub mod Inner
pub mod View
pub mod Written
