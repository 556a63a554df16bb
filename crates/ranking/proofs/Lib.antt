pub mod Marks
pub mod Fine
