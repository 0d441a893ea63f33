pub mod Assuming
