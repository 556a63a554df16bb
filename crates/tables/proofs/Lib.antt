pub mod Columns
pub mod Fresh
pub mod Starts
