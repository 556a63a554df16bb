pub mod Words
pub mod Ranked
