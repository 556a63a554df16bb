pub mod Marking
pub mod Ordering
