pub mod Goals
pub mod Finish
