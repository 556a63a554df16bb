pub mod Charts
pub mod Faults
pub mod Answers
