pub mod Loaded
pub mod Searches
pub mod Stances
