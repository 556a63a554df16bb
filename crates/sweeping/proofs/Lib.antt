pub mod Moved
pub mod Taken
