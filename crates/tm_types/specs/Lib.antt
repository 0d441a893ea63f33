pub mod Answer
pub mod CallMarks
pub mod Findings
pub mod Firsts
pub mod Inner
pub mod Wanted
