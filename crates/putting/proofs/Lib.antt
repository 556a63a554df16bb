pub mod Putting
pub mod Entries
