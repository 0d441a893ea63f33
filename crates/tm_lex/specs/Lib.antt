pub mod Answer
pub mod Class
pub mod Front
pub mod Words
