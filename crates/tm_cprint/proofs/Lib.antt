pub mod Behind
pub mod Printed
